-- What a number finds in a numbered list. Assumes nothing.
use mathlib.Core.Path.{◌≡◌, refl, sym, subst}
use mathlib.Core.Bool.{true, false}
use mathlib.Core.List.{List, [], ◌∷◌}
use Prim.Native.Nat.{ℕ}
use lib.Dec.{eqb}
use borrow.Author.Tests.{eqb-true, ne_eqb}
use Rattle.base.specs.Numbered.{numbered}

infixr 4 ◌then◌
-- ------------------------------------------------------------------------------------------------
-- A number that is none of the list's

-- What the last arm of a `match` knows: G, and that the number is none of the list's, the first of them innermost.
abbrev pub NoneOf {ℓ} : {X : Type ℓ} → Type 0 → List (ℕ × X) → ℕ → Type 0
NoneOf G [] k = G
NoneOf G (e ∷ rest) k = NoneOf (G × (k ≡ e.0 → ⊥)) rest k

given {ℓ} : {X : Type ℓ} (G : Type 0) (l : List (ℕ × X)) (k : ℕ) → NoneOf G l k → G
given G [] k n = n
given G (e ∷ rest) k n = (given (G × (k ≡ e.0 → ⊥)) rest k n).0

-- a number that is none of the list's finds the other
pub numbered_other {ℓ} : {X : Type ℓ} (G : Type 0) (other : X) (l : List (ℕ × X)) (k : ℕ) → NoneOf G l k → numbered other l k ≡ other
numbered_other G other [] k n = refl
numbered_other G other (e ∷ rest) k n =
    rw (ne_eqb k e.0 (given (G × (k ≡ e.0 → ⊥)) rest k n).1, numbered) (numbered_other (G × (k ≡ e.0 → ⊥)) other rest k n)

-- ------------------------------------------------------------------------------------------------
-- A property of every entry of a numbered list

-- P of each entry, at its number
pub data All {ℓ} {X : Type ℓ} (P : ℕ → X → Type 0) : List (ℕ × X) → Type ℓ where
  end : All P []
  ◌then◌ : {e : ℕ × X} {rest : List (ℕ × X)} → P e.0 e.1 → All P rest → All P (e ∷ rest)

-- what holds of each entry at its number, and of the other at every number, holds of what a number finds
pub numbered_all {ℓ} : {X : Type ℓ} (P : ℕ → X → Type 0) (other : X) → ((k : ℕ) → P k other) → (l : List (ℕ × X)) → All P l
    → (k : ℕ) → P k (numbered other l k)
numbered_all P other o [] end k = o k
numbered_all P other o (e ∷ rest) (p then ps) k =
    elim (eqb k e.0) as (λ t. eqb k e.0 ≡ t → P k (elim t [ true ↦ e.1 | false ↦ numbered other rest k ])) [
      | true ↦ λ q. subst (λ (n : ℕ). P n e.1) (sym (eqb-true k e.0 q)) p
      | false ↦ λ q. numbered_all P other o rest ps k
    ] refl
