-- `states::write`: the variable's pair becomes the value's. Assumes nothing.
use mathlib.Core.Path.{ap₂}
use Prim.Native.Nat.{ℕ, ◌+◌, ◌*◌}
use lib.ListN.{set}
use Rattle.evaluation.specs.State.{moved}
use Rattle.states.proofs.write.Goals as goal

pub returns : goal.returns
unfolding moved
returns c =
    let x = c.args.x in
    ap₂ (λ (kind number : ℕ). set (set c.args.state.now (2 * x) kind) (2 * x + 1) number) c.kind_of.ensures c.number_of.ensures
