-- `after::of_two`: what stands under its op. Assumes nothing.
use Rattle.operation.specs.ByOp.{twos, two_value}
use Rattle.operation.proofs.after.of_two.Goals as goal

pub returns-in-12 : goal.returns-in-12
unfolding two_value twos
returns-in-12 c = rw c.in-12.is c.concat.ensures.is
