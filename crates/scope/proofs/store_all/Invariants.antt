-- `store_all`: the invariant is that v is still to be stored at the operands left. Assumes nothing.
use Rattle.forest.specs.Counting.{listed}
use Rattle.scope.proofs.HandingLaws.{Storing}
use Rattle.scope.proofs.store_all.Given as goal

abbrev pub invariant-loop-k : goal.invariant-loop-k
invariant-loop-k l = Storing l.v l.initial.lets (listed l.fn.operands) (listed l.k-iterator) l.lets
