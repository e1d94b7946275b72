-- `typing::by_op::two`: a let is what stands under its op, of its variable's type. Assumes nothing.
use Rattle.std.specs.Prelude.{Some}
use mathlib.Core.Path.{ap, ◌∙◌}
use Rattle.typing.specs.Infer.{let_type}
use Rattle.typing.specs.ByOp.{twos, two_type}
use Rattle.typing.proofs.by_op.two.Goals as goal

pub returns-in-8 : goal.returns-in-8
unfolding two_type twos
returns-in-8 c = rw c.in-8.is (c.lets.ensures ∙ ap (λ t. let_type t (Some c.args.e) (Some c.args.f)) c.type_of.ensures)
