-- The struct and the list of bindings that it stands for: one binding more, and the search from the innermost out. Assumes nothing.
use mathlib.Core.Path.{◌≡◌, refl, sym, ap, ap₂, ◌∙◌}
use mathlib.Core.Bool.{Bool, true, false}
use mathlib.Core.List.{List, [], ◌∷◌}
use Prim.Native.Nat.{ℕ, zero, suc, ◌+◌, ◌-◌, ◌≤◌, ◌<◌}
use native.Mathlib.Nat.{le_refl}
use native.Mathlib.Omega.{arith}
use native.Mathlib.Numerals.{sub-one}
use lib.Dec.{eqb}
use lib.ListN.{length, get_or, length-set, length-replicate}
use lib.Seq.{get_or-set_same, get_or-set_other}
use borrow.Author.Tests.{eq-eqb, ne_eqb}
use Rattle.value.specs.declared.ValueType.TheVariants.{Imm, Mem}
use Rattle.value.specs.declared.Value.{Value}
use Rattle.value.specs.declared.Value.TheVariants.{Word, Unknown, Memory}
use Rattle.value.specs.Values.{size, type_of}
use Rattle.evaluation.specs.State.{number_of}
use Rattle.evaluation.specs.Evaluation.{Binding, most_bindings, look}
use Rattle.bindings.specs.declared.Bindings.{Bindings}
use Rattle.std.specs.Prelude.{Option, None, Some}
use Rattle.bindings.specs.Bound.{Whole, value_held, kind_held, binding_at, first_bindings, bindings_of, none, more, found}

-- ------------------------------------------------------------------------------------------------
-- The search

here : (b : Bindings) (x i : ℕ) → 0 < i → get_or b.variables (i - 1) 0 ≡ x
    → found (first_bindings b i) x ≡ Some (value_held (get_or b.kinds (i - 1) 0) (get_or b.widths (i - 1) 0) (get_or b.numbers (i - 1) 0))
unfolding found first_bindings binding_at
here b x zero p h = absurd (omega arith)
here b x (suc n) p h = let g : get_or b.variables n 0 ≡ x = rw (sub-one (suc n)) at h in rw (sub-one (suc n), eq-eqb (get_or b.variables n 0) x g, found)

further : (b : Bindings) (x i : ℕ) → 0 < i → (get_or b.variables (i - 1) 0 ≡ x → ⊥) → found (first_bindings b i) x ≡ found (first_bindings b (i - 1)) x
unfolding found first_bindings binding_at
further b x zero p h = absurd (omega arith)
further b x (suc n) p h =
    let g : get_or b.variables n 0 ≡ x → ⊥ = rw (sub-one (suc n)) at h in rw (sub-one (suc n), ne_eqb (get_or b.variables n 0) x g, found)

nowhere : (b : Bindings) (x i : ℕ) → i ≤ 0 → found (first_bindings b i) x ≡ None
unfolding found first_bindings
nowhere b x zero p = refl
nowhere b x (suc n) p = absurd (omega arith)

-- what was found so far: the search of all in force is that of the first i
pub record Searching (b : Bindings) (x i : ℕ) : Type 0 where
  pub least : i ≤ most_bindings
  pub same : found (bindings_of b) x ≡ found (first_bindings b i) x

pub search_starts : (b : Bindings) (x : ℕ) → b.count ≤ most_bindings → Searching b x b.count
unfolding bindings_of
search_starts b x h = record { least = h; same = refl }

module _ (b : Bindings) (x : ℕ) {i : ℕ} (s : Searching b x i) where
  pub search_ends : 0 < i → get_or b.variables (i - 1) 0 ≡ x
      → Some (value_held (get_or b.kinds (i - 1) 0) (get_or b.widths (i - 1) 0) (get_or b.numbers (i - 1) 0)) ≡ found (bindings_of b) x
  search_ends p h = sym (s.same ∙ here b x i p h)

  pub search_on : 0 < i → (get_or b.variables (i - 1) 0 ≡ x → ⊥) → Searching b x (i - 1)
  search_on p h = let l = s.least in record { least = omega arith; same = s.same ∙ further b x i p h }

  pub search_fails : i ≤ 0 → None ≡ found (bindings_of b) x
  search_fails p = sym (s.same ∙ nowhere b x i p)

-- ------------------------------------------------------------------------------------------------
-- What the struct stands for

-- a value is read back from what is kept of it
value-held : (v : Value) → value_held (kind_held v) (size (type_of v)) (number_of v) ≡ v
unfolding value_held kind_held number_of
value-held (Word w a) = refl
value-held (Unknown (Imm w)) = refl
value-held (Unknown (Mem w)) = refl
value-held (Memory w head) = refl

pub bindings_none : bindings_of none ≡ []
unfolding bindings_of first_bindings none
bindings_none = refl

pub whole_none : Whole none
unfolding none
whole_none = record {
  few = omega arith;
  variables = length-replicate {A = ℕ} most_bindings 0;
  kinds = length-replicate {A = ℕ} most_bindings 0;
  widths = length-replicate {A = ℕ} most_bindings 0;
  numbers = length-replicate {A = ℕ} most_bindings 0;
}

-- ------------------------------------------------------------------------------------------------
-- One binding more

module _ {b : Bindings} (x : ℕ) (v : Value) (w : Whole b) (room : b.count < most_bindings) where
  pub whole_more : Whole (more b x v)
  unfolding more
  whole_more = record {
    few = omega arith;
    variables = length-set b.variables _ _ ∙ w.variables;
    kinds = length-set b.kinds _ _ ∙ w.kinds;
    widths = length-set b.widths _ _ ∙ w.widths;
    numbers = length-set b.numbers _ _ ∙ w.numbers;
  }

  -- the new one
  at_newest : binding_at (more b x v) b.count ≡ record { variable = x; bound = v }
  unfolding binding_at more
  at_newest =
      let m = w.variables in
      let k = w.kinds in
      let s = w.widths in
      let n = w.numbers in
      rw (
        get_or-set_same b.variables b.count x 0 (omega arith),
        get_or-set_same b.kinds b.count (kind_held v) 0 (omega arith),
        get_or-set_same b.widths b.count (size (type_of v)) 0 (omega arith),
        get_or-set_same b.numbers b.count (number_of v) 0 (omega arith),
        value-held v,
      )

  -- those outside it
  first_more : (n : ℕ) → n ≤ b.count → first_bindings (more b x v) n ≡ first_bindings b n
  unfolding first_bindings binding_at more
  first_more zero h = refl
  first_more (suc n) h =
      rw (
        get_or-set_other b.variables b.count n x 0 (omega arith),
        get_or-set_other b.kinds b.count n (kind_held v) 0 (omega arith),
        get_or-set_other b.widths b.count n (size (type_of v)) 0 (omega arith),
        get_or-set_other b.numbers b.count n (number_of v) 0 (omega arith),
      ) (ap (λ (l : List Binding). binding_at b n ∷ l) (first_more n (omega arith)))

  pub bindings_more : bindings_of (more b x v) ≡ record { variable = x; bound = v } ∷ bindings_of b
  unfolding bindings_of first_bindings more
  bindings_more =
      let one : b.count + 1 ≡ suc b.count = omega arith in
      ap (first_bindings (more b x v)) one ∙ ap₂ (λ (c : Binding) (l : List Binding). c ∷ l) at_newest (first_more b.count (le_refl b.count))

pub length-bindings : (b : Bindings) → length (bindings_of b) ≡ b.count
unfolding bindings_of first_bindings
length-bindings b = go b.count
  where
    go : (n : ℕ) → length (first_bindings b n) ≡ n
    go zero = refl
    go (suc n) = ap suc (go n)

-- what a variable is bound to, else what the state has
abbrev pub value_in : Value → Option Value → Value
value_in other (Some v) = v
value_in other None = other

pub look_found : (ρ : List Binding) (other : Value) (x : ℕ) → look ρ other x ≡ value_in other (found ρ x)
unfolding look found
look_found [] other x = refl
look_found (b ∷ ρ) other x = go (found ρ x) (eqb b.variable x) (look_found ρ other x)
  where
    go : {v : Value} (f : Option Value) (t : Bool) → v ≡ value_in other f
        → elim t [ true ↦ b.bound | false ↦ v ] ≡ value_in other (elim t [ true ↦ Some b.bound | false ↦ f ])
    go f true e = refl
    go f false e = e
