-- `bodies::owner_of`: the invariant: the owner is among the statements below n; where the statement below n doesn't hold i, it is
-- among those below that one's owner. The measure is n. Assumes nothing.
use Rattle.blocks.proofs.OwnerLaws.{Climbed}
use Rattle.blocks.proofs.bodies.owner_of.Given as goal

abbrev pub invariant-loop-j : goal.invariant-loop-j
invariant-loop-j l = Climbed l.frame.bytes.now l.i l.n

abbrev pub decreases-loop-j : goal.decreases-loop-j
decreases-loop-j l = l.n
