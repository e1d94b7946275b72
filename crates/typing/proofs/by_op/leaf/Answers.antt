-- `typing::by_op::leaf`: an unknown has the type that it names. Assumes nothing.
use Rattle.std.specs.Prelude.{Some}
use mathlib.Core.Path.{ap}
use Rattle.typing.specs.ByOp.{leaves, leaf_type}
use Rattle.typing.proofs.by_op.leaf.Goals as goal

pub returns-in-9 : goal.returns-in-9
unfolding leaf_type leaves
returns-in-9 c = rw c.in-9.is (ap Some c.unknown.ensures)
