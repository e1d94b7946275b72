-- `order::steps_of`: what stands under its op. Assumes nothing.
use Rattle.std.proofs.Common.{refl}
use Rattle.operation.specs.Order.{orders, steps_of}
use Rattle.operation.proofs.order.steps_of.Goals as goal

pub returns-in-5 : goal.returns-in-5
unfolding steps_of orders
returns-in-5 c = rw c.in-5.is refl

pub returns-in-8 : goal.returns-in-8
unfolding steps_of orders
returns-in-8 c = rw c.in-8.is refl

pub returns-in-12 : goal.returns-in-12
unfolding steps_of orders
returns-in-12 c = rw c.in-12.is refl
