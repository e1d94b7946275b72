-- `leaf::unbound`: what stands under its op. Assumes nothing.
use Rattle.std.proofs.Common.{◌≡◌, ap, subst}
use Rattle.std.specs.Prelude.{Option, Some, []}
use Rattle.value.specs.declared.ValueType.{ValueType}
use Rattle.value.specs.declared.Value.TheVariants.{Unknown}
use Rattle.table.specs.declared.Node.{Node}
use Rattle.table.specs.Decode.{context}
use Rattle.operation.specs.ByOp.{leaves, at_once}
use Rattle.operation.proofs.leaf.unbound.Goals as goal

pub returns-in-9 : goal.returns-in-9
unfolding at_once leaves
returns-in-9 c =
    subst (λ (r : Node). Some (Unknown c.unknown.result) ≡ at_once (context c.args.frame.now.bytes.now) c.args.state.now r []) c.expression-r.ensures
    (rw c.in-9.is (ap (λ (t : ValueType). Some (Unknown t)) c.unknown.ensures))
