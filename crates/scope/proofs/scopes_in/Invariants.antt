-- `scopes_in`: the invariant is that what no expression below i uses has its nearest let, and that the lowest place so far that breaks
-- the rule is noted. Assumes nothing.
use Prim.Native.Nat.{◌≤◌}
use Rattle.table.specs.Bytes.{header}
use Rattle.scope.proofs.SearchLaws.{Searched}
use Rattle.scope.proofs.scopes_in.Given as goal

abbrev pub invariant-loop-i : goal.invariant-loop-i
invariant-loop-i l = (l.i ≤ (header l.table.frame.bytes.now).expressions) × Searched l.table.frame.bytes.now l.lets l.i l.lowest
