-- `depth::depths_in`: the invariant is that the depths of the expressions passed are kept and at most 64. Assumes nothing.
use Rattle.forest.proofs.DepthLaws.{Kept}
use Rattle.forest.proofs.depth.depths_in.Given as goal

abbrev pub invariant-loop-i : goal.invariant-loop-i
invariant-loop-i l = Kept l.table.frame.bytes.now l.table.frame.header.expressions l.depths l.i
