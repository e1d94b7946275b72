-- Numbers that stand in a list. Assumes nothing.
use mathlib.Core.Path.{◌≡◌, refl, subst, sym}
use mathlib.Core.Bool.{Bool, true, false}
use mathlib.Core.List.{List, [], ◌∷◌}
use Prim.Native.Nat.{ℕ, ◌+◌, ◌≤◌, ◌<◌}
use native.Mathlib.Omega.{arith}
use lib.Dec.{eqb}
use borrow.Author.Tests.{eqb-true, eq-eqb}
use Rattle.std.specs.Prelude.{if◌then◌else◌}
use Rattle.forest.specs.Forest.{how_often}
use Rattle.forest.specs.Counting.{AllBelow, none, ◌and◌, Stands}

pub stands_first : (k : ℕ) (ks : List ℕ) → Stands k (k ∷ ks)
unfolding how_often
stands_first k ks = record { counts = rw (eq-eqb k k refl) (omega arith) }

pub stands_later : {k : ℕ} (j : ℕ) {ks : List ℕ} → Stands k ks → Stands k (j ∷ ks)
unfolding how_often
stands_later {k} j {ks} h = record { counts = omega arith }

-- the first of a list, or one of the others
pub stands_cases {ℓ} : {C : Type ℓ} {k j : ℕ} {ks : List ℕ} → Stands k (j ∷ ks) → (k ≡ j → C) → (Stands k ks → C) → C
unfolding how_often
stands_cases {C = C} {k} {j} {ks} h f g = go (eqb k j) refl h.counts
  where
    go : (t : Bool) → eqb k j ≡ t → 1 ≤ (if t then 1 else 0) + how_often k ks → C
    go true e h = f (eqb-true k j e)
    go false e h = g (record { counts = omega arith })

pub stands_nowhere {ℓ} : {C : Type ℓ} {k : ℕ} → Stands k [] → C
unfolding how_often
stands_nowhere h = absurd (omega arith)

pub stands_below : {n k : ℕ} {ks : List ℕ} → AllBelow n ks → Stands k ks → k < n
stands_below none h = stands_nowhere h
stands_below {n} (l and ls) h = stands_cases h (λ e. subst (λ (i : ℕ). i < n) (sym e) l) (stands_below ls)

-- what holds of each number of a short list holds of one that stands in it
module _ (P : ℕ → Type 0) {k : ℕ} where
  pub in_one : {a : ℕ} → Stands k (a ∷ []) → P a → P k
  in_one h p = stands_cases h (λ e. subst P (sym e) p) (λ h. stands_nowhere h)

  pub in_two : {a b : ℕ} → Stands k (a ∷ b ∷ []) → P a → P b → P k
  in_two h p q = stands_cases h (λ e. subst P (sym e) p) (λ h. in_one h q)

  pub in_three : {a b c : ℕ} → Stands k (a ∷ b ∷ c ∷ []) → P a → P b → P c → P k
  in_three h p q r = stands_cases h (λ e. subst P (sym e) p) (λ h. in_two h q r)
