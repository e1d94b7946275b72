-- `bindings::Bindings::none`. Assumes nothing.
use mathlib.Core.Path.{refl}
use Rattle.bindings.specs.Bound.{none}
use Rattle.bindings.proofs.Bindings.none.Goals as goal

pub returns : goal.returns
unfolding none
returns c = refl
