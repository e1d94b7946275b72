-- `states::kind_of`: each case by what the value is. Assumes nothing.
use mathlib.Core.Path.{sym, ap}
use Rattle.evaluation.specs.State.{kind_of}
use Rattle.states.proofs.kind_of.Goals as goal

pub returns-in-Word : goal.returns-in-Word
unfolding kind_of
returns-in-Word c = sym (ap kind_of c.in-Word.is)

pub returns-in-Unknown : goal.returns-in-Unknown
unfolding kind_of
returns-in-Unknown c = sym (ap kind_of c.in-Unknown.is)

pub returns-in-Memory : goal.returns-in-Memory
unfolding kind_of
returns-in-Memory c = sym (ap kind_of c.in-Memory.is)
