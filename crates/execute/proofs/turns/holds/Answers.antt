-- `turns::holds`: what the test gave. Assumes nothing.
use Rattle.effect.proofs.LeavingLaws.{ready}
use Rattle.execute.proofs.turns.holds.Goals as goal

pub test-requires-clause-ready : goal.test-requires-clause-ready
test-requires-clause-ready c = ready c.requires.running
