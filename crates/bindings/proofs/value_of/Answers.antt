-- `bindings::value_of`: each arm is what stands under its kind. Assumes nothing.
use mathlib.Core.Path.{refl}
use mathlib.Core.List.{[], ◌∷◌}
use Rattle.base.proofs.NumberedLaws.{numbered_other}
use Rattle.value.specs.declared.ValueType.TheVariants.{Imm, Mem}
use Rattle.value.specs.declared.Value.TheVariants.{Word, Unknown, Memory}
use Rattle.bindings.specs.Bound.{value_held}
use Rattle.bindings.proofs.value_of.Goals as goal

pub returns-in-1 : goal.returns-in-1
unfolding value_held
returns-in-1 c = rw c.in-1.is refl

pub returns-in-3 : goal.returns-in-3
unfolding value_held
returns-in-3 c = rw c.in-3.is refl

pub returns-in-4 : goal.returns-in-4
unfolding value_held
returns-in-4 c = rw c.in-4.is refl

pub returns-in_default : goal.returns-in_default
unfolding value_held
returns-in_default c =
    let w = c.args.width in
    let n = c.args.number in
    rw (numbered_other (Unit {0}) (Unknown (Imm w)) ((1, Word w n) ∷ (3, Memory w n) ∷ (4, Unknown (Mem w)) ∷ []) c.args.kind c.in_default.in_default-own.rest) refl
