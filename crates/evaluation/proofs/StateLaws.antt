-- What a variable has in a state before and after a move. Assumes nothing.
use mathlib.Core.Path.{◌≡◌, refl, ◌∙◌}
use mathlib.Core.Logic.{◌≢◌}
use mathlib.Core.List.{List}
use Prim.Native.Nat.{ℕ, ◌+◌, ◌*◌, ◌≤◌, ◌<◌}
use native.Mathlib.Omega.{arith}
use lib.ListN.{length, get_or, set, length-set, get_or-eq_default}
use lib.Seq.{get_or-set_same, get_or-set_other, set_out}
use Rattle.value.specs.declared.ValueType.{ValueType}
use Rattle.value.specs.declared.Value.{Value}
use Rattle.value.specs.declared.Value.TheVariants.{Unknown}
use Rattle.evaluation.specs.State.{in_state, value_of, moved, kind_of, number_of}

-- an absent variable and an unknown one have the same value
pub absent_unknown : (t : ValueType) → value_of t 0 0 ≡ value_of t 2 0
unfolding value_of
absent_unknown t = refl

-- ------------------------------------------------------------------------------------------------
-- The moved variable's pair is the value's, and every other number is as it was

module _ (σ : List ℕ) (x : ℕ) (v : Value) where
  pub length_moved : length (moved σ x v) ≡ length σ
  unfolding moved
  length_moved = length-set (set σ (2 * x) (kind_of v)) _ _ ∙ length-set σ _ _

  pub moved_kind : 2 * x + 1 < length σ → get_or (moved σ x v) (2 * x) 0 ≡ kind_of v
  unfolding moved
  moved_kind h = get_or-set_other (set σ (2 * x) (kind_of v)) _ _ _ 0 (omega arith) ∙ get_or-set_same σ _ _ 0 (omega arith)

  pub moved_number : 2 * x + 1 < length σ → get_or (moved σ x v) (2 * x + 1) 0 ≡ number_of v
  unfolding moved
  moved_number h = get_or-set_same (set σ (2 * x) (kind_of v)) _ _ 0 (omega (arith, length-set σ (2 * x) (kind_of v)))

  pub moved_other : (i : ℕ) → (i ≡ 2 * x → ⊥) → (i ≡ 2 * x + 1 → ⊥) → get_or (moved σ x v) i 0 ≡ get_or σ i 0
  unfolding moved
  moved_other i k h = get_or-set_other (set σ (2 * x) (kind_of v)) _ _ _ 0 h ∙ get_or-set_other σ _ _ _ 0 k

-- ------------------------------------------------------------------------------------------------
-- So it is with values

-- the variable that is moved to
pub moved_here : (σ : List ℕ) (x : ℕ) (v : Value) (t : ValueType) → 2 * x + 1 < length σ → in_state (moved σ x v) t x ≡ value_of t (kind_of v) (number_of v)
unfolding in_state
moved_here σ x v t h = rw (moved_kind σ x v h, moved_number σ x v h)

-- every other
pub moved_elsewhere : (σ : List ℕ) (x : ℕ) (v : Value) (t : ValueType) (y : ℕ) → y ≢ x → in_state (moved σ x v) t y ≡ in_state σ t y
unfolding in_state
moved_elsewhere σ x v t y n =
    rw (
      moved_other σ x v (2 * y) (λ e. n (omega arith)) (λ e. omega arith),
      moved_other σ x v (2 * y + 1) (λ e. omega arith) (λ e. n (omega arith)),
    )

-- a state has no variable past its end: a move there does nothing, and it reads as unknown
pub moved_past : (σ : List ℕ) (x : ℕ) (v : Value) → length σ ≤ 2 * x → moved σ x v ≡ σ
unfolding moved
moved_past σ x v h = rw (set_out σ (2 * x) (kind_of v) h, set_out σ (2 * x + 1) (number_of v) (omega arith))

pub in_state-past : (σ : List ℕ) (t : ValueType) (x : ℕ) → length σ ≤ 2 * x → in_state σ t x ≡ Unknown t
unfolding in_state value_of
in_state-past σ t x h = rw (get_or-eq_default σ 0 h)
