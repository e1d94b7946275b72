-- `check`: the answer without the table. Assumes nothing.
use Rattle.base.proofs.RefusalLaws.{answer_itself, hands_on}
use Rattle.std.proofs.Common.{◌∙◌}
use Rattle.verdict.proofs.check.Goals as goal

pub returns-in_err-accepted : goal.returns-in_err-accepted
returns-in_err-accepted c = answer_itself _ ∙ hands_on _ c.in_err-accepted.ensures.answer c.from_residual.ensures
