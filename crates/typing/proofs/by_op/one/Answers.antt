-- `typing::by_op::one`: an extract is what stands under its op. Assumes nothing.
use Rattle.typing.specs.ByOp.{ones, one_type}
use Rattle.typing.proofs.by_op.one.Goals as goal

pub returns-in-11 : goal.returns-in-11
unfolding one_type ones
returns-in-11 c = rw c.in-11.is c.extract.ensures
