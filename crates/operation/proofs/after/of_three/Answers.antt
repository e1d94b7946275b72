-- `after::of_three`: what stands under its op. Assumes nothing.
use Rattle.std.proofs.Common.{◌≡◌, refl}
use Rattle.base.proofs.NumberedLaws.{numbered_other}
use Rattle.value.specs.Values as Values
use Rattle.memory.specs.Buffer.{held, room_of}
use Rattle.evaluation.specs.Evaluation.{value}
use Rattle.operation.specs.ByOp.{no_value, threes, three_value}
use Rattle.operation.proofs.OutcomeLaws.{leaves_value}
use Rattle.operation.proofs.after.of_three.Goals as goal

pub returns-in-10 : goal.returns-in-10
unfolding three_value threes
returns-in-10 c =
    let a = c.args in
    let ite : three_value (room_of a.log.now) (held a.log.now) a.r a.x a.y a.z ≡ value (Values.choose a.z a.y a.x) (held a.log.now) = rw c.in-10.is refl in
    leaves_value c.requires.holds.room ite c.choose.ensures.is

pub returns-in_default : goal.returns-in_default
unfolding three_value threes
returns-in_default c =
    let a = c.args in
    let none : three_value (room_of a.log.now) (held a.log.now) a.r a.x a.y a.z ≡ value no_value (held a.log.now) =
    rw (numbered_other (Unit {0}) (λ room L r x y z. value no_value L) threes a.r.op c.in_default.in_default-own.rest) refl in
    leaves_value c.requires.holds.room none refl
