-- `after::of_one`: what stands under its op. Assumes nothing.
use Rattle.operation.specs.ByOp.{ones, one_value}
use Rattle.operation.proofs.after.of_one.Goals as goal

pub returns-in-11 : goal.returns-in-11
unfolding one_value ones
returns-in-11 c = rw c.in-11.is c.extract.ensures.is
