-- `bodies::first_end`: the statement's record says how long the body is. Assumes nothing.
use mathlib.Core.Path.{ap, ◌∙◌}
use mathlib.Core.Bool.{◌||◌}
use native.Mathlib.Omega.{arith}
use lib.Dec.{eqb}
use Rattle.std.specs.Prelude.{if◌then◌else◌}
use Rattle.table.specs.declared.Node.{Node}
use Rattle.table.specs.Records.{first_end}
use Rattle.blocks.proofs.bodies.first_end.Goals as goal

pub returns : goal.returns
unfolding first_end
returns c =
    let size =
    c.first_size.ensures.0 ∙ ap (λ (r : Node). if eqb r.op 5 || eqb r.op 6 then r.b else 0) c.statement-r.ensures
    in
    (omega (arith, size), omega (arith, c.args.frame.now.framed.statements))
