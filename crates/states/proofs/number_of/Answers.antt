-- `states::number_of`: each case by what the value is. Assumes nothing.
use mathlib.Core.Path.{sym, ap}
use Rattle.evaluation.specs.State.{number_of}
use Rattle.states.proofs.number_of.Goals as goal

pub returns-in-Word : goal.returns-in-Word
unfolding number_of
returns-in-Word c = sym (ap number_of c.in-Word.is)

pub returns-in-Unknown : goal.returns-in-Unknown
unfolding number_of
returns-in-Unknown c = sym (ap number_of c.in-Unknown.is)

pub returns-in-Memory : goal.returns-in-Memory
unfolding number_of
returns-in-Memory c = sym (ap number_of c.in-Memory.is)
