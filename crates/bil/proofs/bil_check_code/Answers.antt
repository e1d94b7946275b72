-- `bil::bil_check_code`: the code of the check's answer. Assumes nothing.
use mathlib.Core.Path.{ap, ◌∙◌}
use Rattle.base.specs.Refusals.{code_of}
use Rattle.bil.proofs.bil_check_code.Goals as goal

pub returns : goal.returns
returns c = c.code_of.ensures ∙ ap code_of c.check.ensures
