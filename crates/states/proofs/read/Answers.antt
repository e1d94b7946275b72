-- `states::read`: the value of the variable's pair. Assumes nothing.
use Rattle.evaluation.specs.State.{in_state}
use Rattle.states.proofs.read.Goals as goal

pub returns : goal.returns
unfolding in_state
returns c = c.value_of.ensures
