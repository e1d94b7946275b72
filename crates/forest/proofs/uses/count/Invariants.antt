-- `uses::count`: the invariant is that the operands of the first i records are counted. Assumes nothing.
use Rattle.forest.specs.Counting.{CountedBy}
use Rattle.forest.proofs.uses.count.Given as goal

abbrev pub invariant-loop-i : goal.invariant-loop-i
invariant-loop-i g l = CountedBy (goal.F-post g l.operands_of) l.i l.initial.counts l.counts
