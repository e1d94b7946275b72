-- `nesting::nestings_ok`: one statement a turn. The invariant: every statement passed is nested at most 32 deep, and the ends of the last
-- one, of its owner and so on are kept. The measure is the number of statements left. Assumes nothing.
use mathlib.Core.Path.{◌≡◌, refl, sym, ap}
use mathlib.Core.List.{List}
use Prim.Native.Nat.{ℕ, suc, ◌≤◌, ◌<◌}
use native.Mathlib.Nat.{le_refl}
use native.Mathlib.Omega.{arith}
use lib.ListN.{length-set}
use borrow.Author.Count.{below_none, below_more}
use borrow.Author.Tests.{le-leb, lt-leb}
use Rattle.base.proofs.RefusalLaws.{one_rule_accepted, one_rule_refused}
use Rattle.table.specs.declared.Header.{Header}
use Rattle.table.specs.declared.read.Frame.{Frame}
use Rattle.table.specs.Bytes.{header}
use Rattle.table.specs.Records.{second_end}
use Rattle.blocks.specs.Owners.{owner}
use Rattle.forest.specs.Forest.{nesting, nesting_rule}
use Rattle.forest.proofs.NestingLaws.{Kept, none, kept_left, kept_more, kept_count, end_inside_all}
use Rattle.forest.proofs.nesting.nestings_ok.Goals as goal
use Rattle.forest.proofs.nesting.nestings_ok.Goals.{After-left-around}

-- the header is the table's
counted : (f : Frame) → f.header.statements ≡ (header f.bytes.now).statements
counted f = ap (λ (h : Header). h.statements) f.framed.is

pub loop-i-init : goal.loop-i-init
loop-i-init c = record { room = refl; few = omega arith; kept = none; hold = below_none _ }

-- what is known of statement i when n ends are left
record Here (s ends : List ℕ) (i n : ℕ) : Type 0 where
  inside : i < (header s).statements
  kept : Kept s ends (owner s i i) n
  nested : nesting s i ≡ suc n
  ends_by : second_end s i ≤ (header s).statements

here : (c : After-left-around) → Here c.args.table.now.frame.bytes.now c.loop-i.ends c.loop-i.i c.left-around.result
unfolding nesting
here c =
    let f = c.args.table.now.frame in
    let i = c.loop-i.i in
    let inside : i < (header f.bytes.now).statements = omega (arith, counted f, c.loop-i-test.true) in
    let kept = kept_left i c.loop-i.invariant.kept (le_refl i) refl c.left-around.ensures in
    record {
      inside = inside;
      kept = kept;
      nested = ap suc (kept_count c.args.table.now.records inside kept refl);
      ends_by = end_inside_all c.args.table.now.records inside kept refl;
    }

pub returns-then-nesting-gt-MOST_NESTING : goal.returns-then-nesting-gt-MOST_NESTING
unfolding nesting_rule
returns-then-nesting-gt-MOST_NESTING c =
    let t = c.args.table.now.frame.bytes.now in
    let i = c.loop-i.i in
    let deep : 32 < nesting t i = omega (arith, (here c.before).nested, c.if-nesting-gt-MOST_NESTING.true) in
    sym (one_rule_refused (nesting_rule t) i (here c.before).inside c.loop-i.invariant.hold (lt-leb (nesting t i) 32 deep))

pub overflow_cast-ends : goal.overflow_cast-ends
overflow_cast-ends c =
    let f = c.args.table.now.frame in
    record { fits = omega (arith, c.second_end.ensures, (here c.before.before).ends_by, counted f, f.framed.statements) }

pub loop-i-preserved : goal.loop-i-preserved
unfolding nesting_rule
loop-i-preserved c =
    let t = c.args.table.now.frame.bytes.now in
    let i = c.loop-i.i in
    let inv = c.loop-i.invariant in
    let left = c.if-nesting-gt-MOST_NESTING.false in
    let at = here c.before.before in
    let fits : nesting t i ≤ 32 = omega (arith, at.nested, left) in
    record {
      room = simp length-set inv.room;
      few = omega (arith, left);
      kept = kept_more at.kept (omega (arith, left, inv.room)) c.second_end.ensures (omega arith) (omega arith);
      hold = below_more _ _ inv.hold (le-leb (nesting t i) 32 fits);
    }

pub returns : goal.returns
unfolding nesting_rule
returns c =
    let f = c.args.table.now.frame in
    sym
    (one_rule_accepted (nesting_rule f.bytes.now) (λ i h. c.loop-i.invariant.hold i (omega (arith, h, counted f, c.loop-i-test.false))))
