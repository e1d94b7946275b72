-- `leaf::of_record`: what stands under its op. Assumes nothing.
use Rattle.std.proofs.Common.{ap}
use Rattle.std.specs.Prelude.{Some}
use Rattle.value.specs.declared.ValueType.{ValueType}
use Rattle.value.specs.declared.Value.TheVariants.{Unknown}
use Rattle.operation.specs.ByOp.{leaves, at_once}
use Rattle.operation.proofs.leaf.of_record.Goals as goal

pub returns-in-9 : goal.returns-in-9
unfolding at_once leaves
returns-in-9 c = rw c.in-9.is (ap (λ (t : ValueType). Some (Unknown t)) c.unknown.ensures)
