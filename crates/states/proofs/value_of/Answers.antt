-- `states::value_of`: each arm is what stands under its kind; another kind is unknown. Assumes nothing.
use mathlib.Core.Path.{refl, ap}
use mathlib.Core.List.{[], ◌∷◌}
use Prim.Native.Nat.{ℕ}
use Rattle.base.proofs.NumberedLaws.{numbered_other}
use Rattle.value.specs.declared.Value.TheVariants.{Word, Unknown, Memory}
use Rattle.value.specs.Values.{size}
use Rattle.evaluation.specs.State.{value_of}
use Rattle.states.proofs.value_of.Goals as goal

pub returns-in-1 : goal.returns-in-1
unfolding value_of
returns-in-1 c = rw c.in-1.is (ap (λ (w : ℕ). Word w c.args.number) c.size.ensures)

pub returns-in-3 : goal.returns-in-3
unfolding value_of
returns-in-3 c = rw c.in-3.is (ap (λ (w : ℕ). Memory w c.args.number) c.size-in-3.ensures)

pub returns-in_default : goal.returns-in_default
unfolding value_of
returns-in_default c =
    let t = c.args.t in
    let n = c.args.number in
    rw (numbered_other (Unit {0}) (Unknown t) ((1, Word (size t) n) ∷ (3, Memory (size t) n) ∷ []) c.args.kind c.in_default.in_default-own.rest) refl
