-- `depth::deepest`: the invariant is that the operands left have the depths that are still to be looked at. Assumes nothing.
use Rattle.forest.specs.Counting.{listed}
use Rattle.forest.proofs.DepthLaws.{DeepestSoFar}
use Rattle.forest.proofs.depth.deepest.Given as goal

abbrev pub invariant-loop-k : goal.invariant-loop-k
invariant-loop-k l = DeepestSoFar l.depths (listed l.fn.operands) (listed l.k-iterator) l.deepest
