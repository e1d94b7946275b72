-- A loop that looks at the places of a rule from 0 up and stops at the first where it fails. Assumes nothing.
use mathlib.Core.Path.{◌≡◌, sym, subst}
use mathlib.Core.Bool.{Bool, true, false}
use mathlib.Core.List.{[], ◌∷◌}
use Prim.Native.Nat.{ℕ, ◌+◌, ◌≤◌, ◌<◌}
use native.Mathlib.Omega.{arith}
use borrow.Author.Count.{below_none, below_more}
use Rattle.base.specs.Refusals.{Rule, HoldsBelow, one_more, no_rule, Accepted, Refused, refusal}
use Rattle.base.proofs.BoolLaws.{passed, failed}
use Rattle.base.proofs.RefusalLaws.{accepted_iff, one_rule_accepted, one_rule_refused}

-- the rule has n places, and holds at each of the first i
pub record Passed (rule : Rule) (n i : ℕ) : Type 0 where
  pub counted : n ≡ rule.places
  pub reached : i ≤ n
  pub below : HoldsBelow rule.holds i

module _ (rule : Rule) {n : ℕ} where
  pub none_passed : {i : ℕ} → n ≡ rule.places → i ≡ 0 → Passed rule n i
  none_passed e first = record { counted = e; reached = omega (arith, first); below = subst (HoldsBelow rule.holds) (sym first) (below_none _) }

  module _ {i : ℕ} (p : Passed rule n i) where
    pub all_passed : n ≤ i → HoldsBelow rule.holds rule.places
    all_passed end k l = p.below k (omega (arith, p.counted))

    pub accepts : n ≤ i → Accepted ≡ refusal (rule ∷ [])
    accepts end = sym (one_rule_accepted rule (all_passed end))

    -- r is what a function gave of place i
    module _ {r : Bool} (inside : i < n) (is : r ≡ rule.holds i) where
      pub one_passed : r ≡ true → Passed rule n (i + 1)
      one_passed t = record { counted = p.counted; reached = omega arith; below = below_more _ _ p.below (passed is t) }

      pub refuses : r ≡ false → Refused rule.code i ≡ refusal (rule ∷ [])
      refuses t = sym (one_rule_refused rule i (omega (arith, p.counted)) p.below (failed is t))

pub both_accept : (a b : Rule) → HoldsBelow a.holds a.places → HoldsBelow b.holds b.places → Accepted ≡ refusal (a ∷ b ∷ [])
both_accept a b p q = sym ((accepted_iff (a ∷ b ∷ [])).1 (one_more p (one_more q no_rule)))
