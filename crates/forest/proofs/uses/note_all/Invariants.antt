-- `uses::note_all`: the invariant is that the operands left are still to be counted. Assumes nothing.
use Rattle.forest.specs.Counting.{listed}
use Rattle.forest.proofs.CountLaws.{Noted}
use Rattle.forest.proofs.uses.note_all.Given as goal

abbrev pub invariant-loop-k : goal.invariant-loop-k
invariant-loop-k l = Noted l.initial.counts (listed l.fn.operands) (listed l.k-iterator) l.counts
