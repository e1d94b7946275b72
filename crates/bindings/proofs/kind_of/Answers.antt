-- `bindings::kind_of`: each case by what the value is. Assumes nothing.
use mathlib.Core.Path.{sym, ap, ◌∙◌}
use Rattle.value.specs.declared.Value.TheVariants.{Unknown}
use Rattle.bindings.specs.Bound.{kind_held}
use Rattle.bindings.proofs.kind_of.Goals as goal

pub returns-in-Word : goal.returns-in-Word
unfolding kind_held
returns-in-Word c = sym (ap kind_held c.in-Word.is)

pub returns-in-Imm : goal.returns-in-Imm
unfolding kind_held
returns-in-Imm c = sym (ap kind_held (c.in-Unknown.is ∙ ap Unknown c.in-Imm.is))

pub returns-in-Mem : goal.returns-in-Mem
unfolding kind_held
returns-in-Mem c = sym (ap kind_held (c.in-Unknown.is ∙ ap Unknown c.in-Mem.is))

pub returns-in-Memory : goal.returns-in-Memory
unfolding kind_held
returns-in-Memory c = sym (ap kind_held c.in-Memory.is)
