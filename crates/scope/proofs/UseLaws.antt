-- Where each expression is used exactly once, no two expressions name the same operand. Assumes nothing.
use mathlib.Core.Path.{◌≡◌, subst}
use mathlib.Core.List.{List, [], ◌∷◌, flat_map}
use Prim.Native.Nat.{ℕ, zero, suc, ◌+◌, ◌≤◌, ◌<◌}
use native.Mathlib.Nat.{not-suc-le-zero}
use native.Mathlib.Decide.{dec_lt}
use native.Mathlib.Omega.{arith}
use Rattle.base.specs.Refusals.{Accepted, refusal}
use Rattle.table.specs.Bytes.{header}
use Rattle.forest.specs.Forest.{how_often, over, operands_of, expressions_of, uses, use_rule}
use Rattle.forest.specs.Counting.{Stands}
use Rattle.forest.proofs.CountLaws.{how_often-append}
use Rattle.forest.proofs.StandsLaws.{stands_first, stands_later, stands_cases, stands_nowhere}
use Rattle.forest.proofs.UserLaws.{used_once}

-- ------------------------------------------------------------------------------------------------
-- Lists of lists

module _ {k : ℕ} (f : ℕ → List ℕ) where
  pub flat_map-stands : {j : ℕ} (ks : List ℕ) → Stands j ks → Stands k (f j) → Stands k (flat_map f ks)
  unfolding flat_map
  flat_map-stands [] h g = stands_nowhere h
  flat_map-stands {j} (i ∷ ks) h g =
      stands_cases h
      (λ e.
      let here = subst (λ (i : ℕ). Stands k (f i)) e g in
      record { counts = omega (arith, here.counts, how_often-append k (f i) (flat_map f ks)) })
      (λ h. record { counts = omega (arith, (flat_map-stands ks h g).counts, how_often-append k (f i) (flat_map f ks)) })

  pub stands_flat_map {ℓ} : {C : Type ℓ} (ks : List ℕ) → Stands k (flat_map f ks) → ((j : ℕ) → Stands j ks → Stands k (f j) → C) → C
  unfolding flat_map
  stands_flat_map [] h found = stands_nowhere h
  stands_flat_map {C = C} (i ∷ ks) h found =
      go (dec_lt 0 (how_often k (f i))) (λ rest. stands_flat_map ks rest (λ j p q. found j (stands_later i p) q))
    where
      go : Dec (0 < how_often k (f i)) → (Stands k (flat_map f ks) → C) → C
      go (yes d) later = found i (stands_first i ks) (record { counts = d })
      go (no d) later = later (record { counts = omega (arith, h.counts, how_often-append k (f i) (flat_map f ks)) })

-- ------------------------------------------------------------------------------------------------
-- Lists one after the other

-- one of the lists has no more of a number than all
pub over_one : (f : ℕ → List ℕ) (k n i : ℕ) → i < n → how_often k (f i) ≤ how_often k (over f n)
unfolding over
over_one f k zero i l = absurd (not-suc-le-zero l)
over_one f k (suc n) i l = go (dec_lt i n) (over_one f k n i)
  where
    go : Dec (i < n) → (i < n → how_often k (f i) ≤ how_often k (over f n)) → how_often k (f i) ≤ how_often k (over f (suc n))
    go (yes d) ih = omega (arith, ih d, how_often-append k (over f n) (f n))
    go (no d) ih = let e : i ≡ n = omega arith in rw e (omega (arith, how_often-append k (over f n) (f n)))

-- nor have two of them
pub over_two : (f : ℕ → List ℕ) (k n i j : ℕ) → i < j → j < n → how_often k (f i) + how_often k (f j) ≤ how_often k (over f n)
unfolding over
over_two f k zero i j l m = absurd (not-suc-le-zero m)
over_two f k (suc n) i j l m = go (dec_lt j n) (over_two f k n i j l)
  where
    go : Dec (j < n) → (j < n → how_often k (f i) + how_often k (f j) ≤ how_often k (over f n))
        → how_often k (f i) + how_often k (f j) ≤ how_often k (over f (suc n))
    go (yes d) ih = omega (arith, ih d, how_often-append k (over f n) (f n))
    go (no d) ih =
        let e : j ≡ n = omega arith in
        rw e (omega (arith, over_one f k n i (omega arith), how_often-append k (over f n) (f n)))

-- ------------------------------------------------------------------------------------------------
-- One user

module _ (s : List ℕ) (accepted : refusal (use_rule s ∷ []) ≡ Accepted) where
  -- an expression is no operand of two
  not_two : (k i j : ℕ) → k < (header s).expressions → i < j → j < (header s).expressions → Stands k (operands_of s i) → Stands k (operands_of s j)
      → ⊥
  unfolding uses
  not_two k i j l below inside p q =
      let E = (header s).expressions in
      let two = over_two (operands_of s) k E i j below inside in
      omega (arith, used_once s accepted k l, how_often-append k (over (operands_of s) E) (over (expressions_of s) (header s).statements))

  pub one_user :
      {k i j : ℕ} → k < (header s).expressions → i < (header s).expressions → j < (header s).expressions → Stands k (operands_of s i)
      → Stands k (operands_of s j) → i ≡ j
  one_user {k} {i} {j} l m n p q = go (dec_lt i j) (dec_lt j i)
    where
      go : Dec (i < j) → Dec (j < i) → i ≡ j
      go (yes d) e = absurd (not_two k i j l d n p q)
      go (no d) (yes e) = absurd (not_two k j i l e m q p)
      go (no d) (no e) = omega arith
