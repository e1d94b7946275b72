-- `bodies::second_end`: the statement's record says how long the body is. Assumes nothing.
use mathlib.Core.Path.{ap, ap₂, ◌∙◌}
use Prim.Native.Nat.{◌+◌}
use lib.Dec.{eqb}
use Rattle.std.specs.Prelude.{if◌then◌else◌}
use Rattle.table.specs.declared.Node.{Node}
use Rattle.table.specs.Records.{second_end}
use Rattle.blocks.proofs.bodies.second_end.Goals as goal

pub returns : goal.returns
unfolding second_end
returns c =
    let size = c.second_size.ensures.0 ∙ ap (λ (r : Node). if eqb r.op 6 then r.c else 0) c.statement-r.ensures in
    ap₂ ◌+◌ c.first_end.ensures.0 size
