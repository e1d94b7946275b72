-- `depth::depths_in`: the depth of an expression is one more than its deepest operand's, which is kept. Assumes nothing.
use mathlib.Core.Path.{◌≡◌, ap, sym, ◌∙◌}
use mathlib.Core.List.{List, map}
use Prim.Native.Nat.{ℕ, ◌+◌}
use native.Mathlib.Omega.{arith}
use lib.ListN.{get_or}
use Rattle.forest.specs.Forest.{largest, depths as depthsOf}
use Rattle.forest.proofs.DepthLaws.{depth_next, keep, too_deep, none_too_deep}
use Rattle.forest.proofs.OperandLaws.{operands_named, operands_below, earlier}
use Rattle.forest.proofs.depth.depths_in.Goals as goal
use Rattle.forest.proofs.depth.depths_in.Goals.{After-deepest-d}

pub deepest-d-requires : goal.deepest-d-requires
deepest-d-requires c =
    let l = c.loop-i in
    let named = operands_named c.args.table.now.frame.bytes.now l.i c.of_expression.ensures c.expression.ensures in
    operands_below c.args.table.now.frame.framed c.args.table.now.records l.i named (omega arith) c.loop-i-test.true

-- the depth of the expression in hand, when its operands are looked at
depth_is : (c : After-deepest-d) →
    get_or (depthsOf c.args.table.now.frame.bytes.now c.args.table.now.frame.header.expressions) c.loop-i.i 0
    ≡ c.deepest-d.result + 1
depth_is c =
    let l = c.loop-i in
    let inside = c.loop-i-test.true in
    let named = operands_named c.args.table.now.frame.bytes.now l.i c.of_expression.ensures c.expression.ensures in
    depth_next l.i l.invariant (earlier c.args.table.now.frame.framed c.args.table.now.records l.i inside) inside
    ∙ sym (ap (λ (d : ℕ). d + 1) (c.deepest-d.ensures ∙ ap (λ (ks : List ℕ). largest (map (λ k. get_or l.depths k 0) ks)) named))

pub returns-then-d-ge-MOST_DEPTH : goal.returns-then-d-ge-MOST_DEPTH
returns-then-d-ge-MOST_DEPTH c =
    let l = c.loop-i in
    let inside = c.loop-i-test.true in
    let e = depth_is c.before in
    sym (too_deep c.args.table.now.frame.bytes.now c.args.table.now.frame.header c.args.table.now.frame.framed.is l.i l.invariant inside (omega arith))

pub loop-i-preserved : goal.loop-i-preserved
loop-i-preserved c =
    let l = c.loop-i in
    keep l.i (c.deepest-d.result + 1) l.invariant (omega arith) (depth_is c.before) (omega arith)

pub returns : goal.returns
returns c =
    let l = c.loop-i in
    sym (none_too_deep _ _ c.args.table.now.frame.framed.is l.i l.invariant c.loop-i-test.false)
