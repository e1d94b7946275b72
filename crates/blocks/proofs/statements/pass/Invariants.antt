-- `statements::pass`: the invariant: the rule holds at each statement passed, and the slice has their owners. Assumes nothing.
use Rattle.blocks.proofs.PassLaws.{Passed}
use Rattle.blocks.proofs.statements.pass.Given as goal

abbrev pub invariant-loop-i : goal.invariant-loop-i
invariant-loop-i l = Passed l.frame.bytes.now l.owners l.i
