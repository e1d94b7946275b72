use Rattle.std.proofs.Common.{ℕ, ◌<◌, true}
use Rattle.base.proofs.first_fault.Given as goal

-- each place so far holds
abbrev pub invariant-loop-i : goal.invariant-loop-i
invariant-loop-i g l = (k : ℕ) → k < l.i → goal.F-post g l.holds k true
