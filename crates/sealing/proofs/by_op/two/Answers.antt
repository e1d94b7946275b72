-- `sealing::by_op::two`: an op that is not listed takes both labels. Assumes nothing.
use Rattle.base.proofs.NumberedLaws.{numbered_other}
use Rattle.sealing.specs.Labels.{either}
use Rattle.sealing.specs.ByOp.{twos, two_label}
use Rattle.sealing.proofs.by_op.two.Goals as goal

pub returns-in_default : goal.returns-in_default
unfolding two_label twos
returns-in_default c = rw (numbered_other (Unit {0}) (λ Γ r. either) twos c.args.r.op c.in_default.in_default-own.rest) c.either.ensures
