-- `nesting::nestings_ok`: one statement a turn. The invariant: every statement passed is nested at most 32 deep, and the ends of the last
-- one, of its owner and so on are kept. Assumes nothing.
use mathlib.Core.Path.{◌≡◌}
use mathlib.Core.List.{List}
use Prim.Native.Nat.{ℕ, ◌≤◌}
use lib.ListN.{length}
use Rattle.base.specs.Refusals.{HoldsBelow}
use Rattle.forest.specs.Forest.{nesting_rule}
use Rattle.forest.proofs.NestingLaws.{Kept}
use Rattle.forest.proofs.nesting.nestings_ok.Given as goal

-- what is known when the first i statements are passed
pub record Passed (s ends : List ℕ) (n i : ℕ) : Type 0 where
  pub room : length ends ≡ 32
  pub few : n ≤ 32
  pub kept : Kept s ends i n
  pub hold : HoldsBelow (nesting_rule s).holds i

abbrev pub invariant-loop-i : goal.invariant-loop-i
invariant-loop-i l = Passed l.table.frame.bytes.now l.ends l.kept l.i
