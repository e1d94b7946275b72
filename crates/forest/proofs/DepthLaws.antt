-- Depths that are kept from the first expression on. Assumes nothing.
use mathlib.Core.Path.{◌≡◌, refl, ap, ap₂, sym, subst, ◌∙◌}
use mathlib.Core.List.{List, [], ◌∷◌, map}
use Prim.Native.Nat.{ℕ, suc, max, ◌+◌, ◌≤◌, ◌<◌}
use native.Mathlib.Nat.{lt_of_lt_of_le}
use native.Mathlib.Omega.{arith}
use lib.ListN.{length, get_or, set}
use lib.Seq.{get_or-set_same, get_or-set_other}
use lib.Dec.{leb}
use borrow.Author.Count.{below_none, below_more}
use borrow.Author.Tests.{le-leb, lt-leb}
use Rattle.base.specs.declared.codes.Code.TheVariants as Codes
use Rattle.base.specs.Refusals.{Accepted, Refused, Rule, HoldsBelow, refusal}
use Rattle.base.proofs.CourseLaws.{up_to_at}
use Rattle.base.proofs.RefusalLaws.{one_rule_accepted, one_rule_refused}
use Rattle.table.specs.declared.Header.{Header}
use Rattle.table.specs.Bytes.{header}
use Rattle.forest.specs.Forest.{operands_of, largest, depths, most_depth, depth_rule}
use Rattle.forest.specs.Counting.{AllBelow, none, ◌and◌}
use Rattle.forest.proofs.OperandLaws.{rest_below}

-- ------------------------------------------------------------------------------------------------
-- A depth by those before it

pub depths_at :
    (s : List ℕ) (n i : ℕ) → i < n → get_or (depths s n) i 0 ≡ suc (largest (map (λ k. get_or (depths s i) k 0) (operands_of s i)))
unfolding depths
depths_at s n i h = up_to_at _ n i 0 h

map_below : {n : ℕ} {ks : List ℕ} (f g : ℕ → ℕ) → AllBelow n ks → ((k : ℕ) → k < n → f k ≡ g k) → map f ks ≡ map g ks
map_below f g none same = refl
map_below f g (l and ls) same = ap₂ ◌∷◌ (same _ l) (map_below f g ls same)

-- ------------------------------------------------------------------------------------------------
-- The deepest operand

-- of kept depths: the larger of d and the depths of the operands left is the largest of all; each operand left has a place
pub record DeepestSoFar (kept all left : List ℕ) (d : ℕ) : Type 0 where
  pub below : AllBelow (length kept) left
  pub is : max d (largest (map (λ k. get_or kept k 0) left)) ≡ largest (map (λ k. get_or kept k 0) all)

pub deepest_next :
    {kept all left : List ℕ} {d e k : ℕ} {rest : List ℕ} → DeepestSoFar kept all left d → left ≡ k ∷ rest → e ≡ max (get_or kept k 0) d
    → DeepestSoFar kept all rest e
unfolding largest
deepest_next {kept} {all} {left} {d} {e} {k} {rest} so is larger =
    let all_is = subst (λ (left : List ℕ). max d (largest (map (λ k. get_or kept k 0) left)) ≡ largest (map (λ k. get_or kept k 0) all)) is so.is in
    record { below = rest_below (subst (AllBelow (length kept)) is so.below); is = omega arith }

pub deepest_all : {kept all left : List ℕ} {d : ℕ} → DeepestSoFar kept all left d → left ≡ [] → d ≡ largest (map (λ k. get_or kept k 0) all)
unfolding largest
deepest_all {kept} {all} {left} {d} so is =
    let all_is = subst (λ (left : List ℕ). max d (largest (map (λ k. get_or kept k 0) left)) ≡ largest (map (λ k. get_or kept k 0) all)) is so.is in
    omega arith

-- ------------------------------------------------------------------------------------------------
-- Kept depths

-- the first i places keep the depths of a table of n expressions, none over the limit
pub record Kept (s : List ℕ) (n : ℕ) (kept : List ℕ) (i : ℕ) : Type 0 where
  pub each : (k : ℕ) → k < i → get_or kept k 0 ≡ get_or (depths s n) k 0
  pub small : (k : ℕ) → k < i → get_or (depths s n) k 0 ≤ most_depth

pub none_kept : (s : List ℕ) (n : ℕ) {kept : List ℕ} → Kept s n kept 0
none_kept s n = record { each = below_none _; small = below_none _ }

-- the depth of the next expression, by what is kept
pub depth_next :
    {s : List ℕ} {n : ℕ} {kept : List ℕ} (i : ℕ) → Kept s n kept i → AllBelow i (operands_of s i) → i < n
    → get_or (depths s n) i 0 ≡ largest (map (λ k. get_or kept k 0) (operands_of s i)) + 1
depth_next {s} {n} {kept} i h below inside =
    let same : map (λ k. get_or (depths s i) k 0) (operands_of s i) ≡ map (λ k. get_or kept k 0) (operands_of s i) =
    map_below (λ k. get_or (depths s i) k 0) (λ k. get_or kept k 0) below
    (λ k l. depths_at s i k l ∙ sym (depths_at s n k (omega arith)) ∙ sym (h.each k l))
    in
    omega (arith, depths_at s n i inside, ap largest same)

pub keep :
    {s : List ℕ} {n : ℕ} {kept : List ℕ} (i v : ℕ) → Kept s n kept i → i < length kept → get_or (depths s n) i 0 ≡ v
    → v ≤ most_depth → Kept s n (set kept i v) (i + 1)
keep {s} {n} {kept} i v h inside is small =
    record {
      each =
          below_more (λ k. get_or (set kept i v) k 0 ≡ get_or (depths s n) k 0) i
          (λ k l. get_or-set_other kept i k v 0 (λ e. omega arith) ∙ h.each k l)
          (get_or-set_same kept i v 0 inside ∙ sym is);
      small = below_more (λ k. get_or (depths s n) k 0 ≤ most_depth) i h.small (omega arith);
    }

-- ------------------------------------------------------------------------------------------------
-- What kept depths say in the end

module _ (s : List ℕ) (h : Header) (is : h ≡ header s) {kept : List ℕ} (i : ℕ) (so : Kept s h.expressions kept i) where
  rule : Header → Rule
  rule h = record { code = Codes.Depth; places = h.expressions; holds = λ k. leb (get_or (depths s h.expressions) k 0) most_depth }

  same : refusal (depth_rule s ∷ []) ≡ refusal (rule h ∷ [])
  unfolding depth_rule rule
  same = ap (λ (h : Header). refusal (rule h ∷ [])) (sym is)

  holds : HoldsBelow (rule h).holds i
  unfolding rule
  holds k l = le-leb _ _ (so.small k l)

  pub too_deep : i < h.expressions → most_depth < get_or (depths s h.expressions) i 0 → refusal (depth_rule s ∷ []) ≡ Refused Codes.Depth i
  unfolding rule
  too_deep inside deep = same ∙ one_rule_refused (rule h) i inside holds (lt-leb _ _ deep)

  pub none_too_deep : h.expressions ≤ i → refusal (depth_rule s ∷ []) ≡ Accepted
  unfolding rule
  none_too_deep all = same ∙ one_rule_accepted (rule h) (λ k l. holds k (lt_of_lt_of_le l all))
