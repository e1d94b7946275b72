-- `scopes_in`: a turn hands the nearest let down and notes the place where the rule fails; in the end the lowest such place is noted.
-- Assumes nothing.
use mathlib.Core.Path.{refl, ap, sym}
use Prim.Native.Nat.{◌-◌, ◌<◌}
use native.Mathlib.Omega.{arith}
use Rattle.table.specs.declared.Header.{Header}
use Rattle.table.specs.Bytes.{header}
use Rattle.scope.proofs.SearchLaws.{search_starts, search_near, search_holds, search_fails, search_refused, search_accepted}
use Rattle.forest.proofs.OperandLaws.{operands_named, operands_below}
use Rattle.scope.proofs.scopes_in.Goals as goal
use Rattle.scope.proofs.scopes_in.Goals.{then-not-in_scope, else-not-in_scope}

pub loop-i-init : goal.loop-i-init
loop-i-init c =
    let all = ap (λ (h : Header). h.expressions) c.args.table.now.frame.framed.is in
    (omega arith, search_starts c.args.table.now.frame.bytes.now c.args.table.now.records _ all c.requires.expressions_in_bounds c.requires.lets_value)

pub in_scope-requires-clause-nearest_from : goal.in_scope-requires-clause-nearest_from
in_scope-requires-clause-nearest_from c =
    let l = c.loop-i in
    search_near c.args.table.now.frame.bytes.now c.args.table.now.records (l.i - 1) (omega arith) l.invariant.1 l.invariant.0

pub hand_down-requires-clause-all_below : goal.hand_down-requires-clause-all_below
hand_down-requires-clause-all_below c =
    let l = c.loop-i in
    let all = ap (λ (h : Header). h.expressions) c.args.table.now.frame.framed.is in
    operands_below c.args.table.now.frame.framed c.args.table.now.records (l.i - 1) (operands_named c.args.table.now.frame.bytes.now (l.i - 1) refl c.expression-r.ensures)
    (omega arith) (omega arith)

pub loop-i-preserved : goal.loop-i-preserved
loop-i-preserved c =
    let l = c.loop-i in
    let taken = c.loop-i-test.true in
    let most = l.invariant.0 in
    let inside : l.i - 1 < (header c.args.table.now.frame.bytes.now).expressions = omega arith in (
      omega arith,
      elim c.if-not-in_scope.branch [
        | then-not-in_scope w ↦
            search_fails c.args.table.now.frame.bytes.now c.args.table.now.records c.requires.s_value inside (omega arith) l.invariant.1 c.expression-r.ensures
            c.hand_down.ensures c.in_scope.ensures w.if-not-in_scope.true w.lowest-is
        | else-not-in_scope w ↦
            search_holds c.args.table.now.frame.bytes.now c.args.table.now.records c.requires.s_value inside (omega arith) l.invariant.1 c.expression-r.ensures
            c.hand_down.ensures c.in_scope.ensures w.if-not-in_scope.false w.lowest-is
      ],
    )

pub returns-in-Some : goal.returns-in-Some
returns-in-Some c = sym (search_refused c.args.table.now.frame.bytes.now (omega arith) c.loop-i.invariant.1 c.in-Some.is)

pub returns-in-None : goal.returns-in-None
returns-in-None c = sym (search_accepted c.args.table.now.frame.bytes.now (omega arith) c.loop-i.invariant.1 c.in-None.is)
