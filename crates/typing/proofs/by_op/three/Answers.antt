-- `typing::by_op::three`: an op that is not listed gives no type. Assumes nothing.
use Rattle.std.specs.Prelude.{None}
use mathlib.Core.Path.{refl}
use Rattle.base.proofs.NumberedLaws.{numbered_other}
use Rattle.typing.specs.ByOp.{threes, three_type}
use Rattle.typing.proofs.by_op.three.Goals as goal

pub returns-in_default : goal.returns-in_default
unfolding three_type threes
returns-in_default c = rw (numbered_other (Unit {0}) (λ r e f g. None) threes c.args.r.op c.in_default.in_default-own.rest) refl
