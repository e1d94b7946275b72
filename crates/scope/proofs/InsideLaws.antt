-- An expression and all that stand inside it: with each its operands, and of each but the first its user. Assumes nothing.
use mathlib.Core.Path.{◌≡◌, sym, subst, ◌∙◌}
use mathlib.Core.List.{List, [], ◌∷◌, flat_map}
use Prim.Native.Nat.{ℕ, zero, suc, ◌<◌}
use native.Mathlib.Nat.{not-suc-le-zero}
use native.Mathlib.Omega.{arith}
use lib.ListN.{get_or}
use Rattle.base.proofs.CourseLaws.{up_to_at}
use Rattle.table.specs.Bytes.{header}
use Rattle.table.specs.Records.{RecordsHold}
use Rattle.forest.specs.Forest.{operands_of, insides}
use Rattle.forest.specs.Counting.{Stands}
use Rattle.forest.proofs.OperandLaws.{operands_earlier}
use Rattle.forest.proofs.StandsLaws.{stands_first, stands_later, stands_cases, stands_below}
use Rattle.scope.proofs.UseLaws.{flat_map-stands, stands_flat_map}

module _ (s : List ℕ) where
  -- how many expressions there are
  abbrev pub E : ℕ
  E = (header s).expressions

  abbrev pub inside_of : ℕ → List ℕ
  inside_of k = get_or (insides s E) k []

  insides_at : (n k : ℕ) → k < n → get_or (insides s n) k [] ≡ k ∷ flat_map (λ j. get_or (insides s k) j []) (operands_of s k)
  unfolding insides
  insides_at n k l = up_to_at _ n k [] l

  -- what stands inside an earlier expression doesn't depend on how many follow
  insides_same : (k j : ℕ) → j < k → k < E → get_or (insides s k) j [] ≡ inside_of j
  insides_same k j l m = insides_at k j l ∙ sym (insides_at E j (omega arith))

  pub inside_itself : {k : ℕ} → k < E → Stands k (inside_of k)
  inside_itself {k} l = rw (insides_at E k l) (stands_first k _)

  module _ (hold : RecordsHold s) where
    pub operand_below : {j k : ℕ} → k < E → Stands j (operands_of s k) → j < k
    operand_below {j} {k} l h = stands_below (operands_earlier hold k l) h

    -- what stands inside an operand
    inside_operand : {i j k : ℕ} → k < E → Stands j (operands_of s k) → Stands i (inside_of j) → Stands i (inside_of k)
    inside_operand {i} {j} {k} l p q =
        rw (insides_at E k l)
        (stands_later k
        (flat_map-stands (λ j. get_or (insides s k) j []) (operands_of s k) p (rw (insides_same k j (operand_below l p) l) q)))

    -- itself, or what stands inside an operand
    inside_cases {ℓ} : {C : Type ℓ} {i k : ℕ} → k < E → Stands i (inside_of k) → (i ≡ k → C)
        → ((j : ℕ) → Stands j (operands_of s k) → Stands i (inside_of j) → C) → C
    inside_cases {i = i} {k} l h f g =
        stands_cases (subst (Stands i) (insides_at E k l) h) f
        (λ h. stands_flat_map (λ j. get_or (insides s k) j []) (operands_of s k) h
        (λ j p q. g j p (subst (Stands i) (insides_same k j (operand_below l p) l) q)))

    -- with an expression its operands stand inside
    down_below : (n : ℕ) {i j k : ℕ} → k < n → k < E → Stands j (inside_of k) → Stands i (operands_of s j) → Stands i (inside_of k)
    down_below zero l m p q = absurd (not-suc-le-zero l)
    down_below (suc n) {i} {j} {k} l m p q =
        inside_cases m p
        (λ e.
        let q' = subst (λ (j : ℕ). Stands i (operands_of s j)) e q in
        inside_operand m q' (inside_itself (omega (arith, operand_below m q'))))
        (λ o a b.
        let below = operand_below m a in
        inside_operand m a (down_below n (omega arith) (omega arith) b q))

    pub inside_down : {i j k : ℕ} → k < E → Stands j (inside_of k) → Stands i (operands_of s j) → Stands i (inside_of k)
    inside_down {k = k} l p q = down_below (suc k) (omega arith) l p q

    -- what stands inside is the expression itself, or its user stands inside too
    up_below {ℓ} : {C : Type ℓ} (n : ℕ) {i k : ℕ} → k < n → k < E → Stands i (inside_of k) → (i ≡ k → C)
        → ((j : ℕ) → j < E → Stands i (operands_of s j) → Stands j (inside_of k) → C) → C
    up_below zero l m p f g = absurd (not-suc-le-zero l)
    up_below (suc n) {i} {k} l m p f g =
        inside_cases m p f
        (λ o a b.
        let below = operand_below m a in
        up_below n (omega arith) (omega arith) b
        (λ e. g k m (subst (λ (o : ℕ). Stands o (operands_of s k)) (sym e) a) (inside_itself m))
        (λ j c d e. g j c d (inside_operand m a e)))

    pub inside_up {ℓ} : {C : Type ℓ} {i k : ℕ} → k < E → Stands i (inside_of k) → (i ≡ k → C)
        → ((j : ℕ) → j < E → Stands i (operands_of s j) → Stands j (inside_of k) → C) → C
    inside_up {k = k} l p f g = up_below (suc k) (omega arith) l p f g
