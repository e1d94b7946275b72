-- The nesting of a statement, by the ends that a walk keeps: it is one more than its owner's, where bodies end inside the block around
-- them. Assumes nothing.
use mathlib.Core.Path.{◌≡◌, refl, sym, ◌∙◌, ap, ap₂, subst}
use mathlib.Core.Bool.{Bool}
use mathlib.Core.List.{List, ◌∷◌}
use Prim.Native.Nat.{ℕ, zero, suc, ◌-◌, ◌≤◌, ◌<◌}
use native.Mathlib.Decide.{dec_lt}
use native.Mathlib.Nat.{le_trans, le_refl}
use native.Mathlib.Omega.{arith}
use lib.Dec.{ltb}
use lib.ListN.{length, get_or, set}
use lib.Seq.{get_or-set_same, get_or-set_other}
use borrow.Author.Tests.{lt-ltb, le-ltb}
use Rattle.std.specs.Prelude.{if◌then◌else◌}
use Rattle.table.specs.Bytes.{header}
use Rattle.table.specs.Records.{first_end, second_end, ends_around, RecordsHold}
use Rattle.blocks.specs.Owners.{owner}
use Rattle.table.proofs.Nesting.{end_below, first_le_second, Around, in_first, in_second, in_neither, around, block_end-is, bodies_inside}
use Rattle.blocks.proofs.OwnerLaws.{owner_none, owner_here, owner_before, owner_climbs, owner_holds, owner_le, outermost_end}
use Rattle.forest.specs.Ends.{Left}

-- ------------------------------------------------------------------------------------------------
-- How many bodies are around a statement

around_count : List ℕ → ℕ → ℕ → ℕ
around_count s i j = length (ends_around s i j)

module _ (s : List ℕ) (i : ℕ) where
  count_by : ℕ → Bool → Bool → ℕ
  count_by j t u =
      let outer = ends_around s i j in
      length (if t then first_end s j ∷ outer else (if u then second_end s j ∷ outer else outer))

  count_none : around_count s i 0 ≡ 0
  unfolding around_count ends_around
  count_none = refl

  count_more : (j : ℕ) → i < second_end s j → around_count s i (suc j) ≡ suc (around_count s i j)
  unfolding around_count ends_around count_by
  count_more j h = go (dec_lt i (first_end s j))
    where
      go : Dec (i < first_end s j) → around_count s i (suc j) ≡ suc (around_count s i j)
      go (yes l) = ap (λ (t : Bool). count_by j t (ltb i (second_end s j))) (lt-ltb i (first_end s j) l)
      go (no l) = ap₂ (count_by j) (le-ltb i (first_end s j) (omega arith)) (lt-ltb i (second_end s j) h)

  count_same : (j : ℕ) → second_end s j ≤ i → around_count s i (suc j) ≡ around_count s i j
  unfolding around_count ends_around count_by
  count_same j h =
      ap₂ (count_by j) (le-ltb i (first_end s j) (le_trans (first_le_second s j) h)) (le-ltb i (second_end s j) h)

  -- all of them stand below the owner or are its own
  count_by-owner : (j : ℕ) → around_count s i j ≡ around_count s i (owner s i j)
  count_by-owner zero = ap (around_count s i) (sym (owner_none s i))
  count_by-owner (suc j) = go (dec_lt i (second_end s j)) (count_by-owner j)
    where
      go :
          Dec (i < second_end s j) → around_count s i j ≡ around_count s i (owner s i j)
          → around_count s i (suc j) ≡ around_count s i (owner s i (suc j))
      go (yes h) ih = ap (around_count s i) (sym (owner_here s i j h))
      go (no h) ih =
          let l : second_end s j ≤ i = omega arith in
          count_same j l ∙ ih ∙ ap (around_count s i) (sym (owner_before s i j l))

-- ------------------------------------------------------------------------------------------------
-- Bodies nest

module _ {s : List ℕ} (holds : RecordsHold s) where
  end_inside :
      (k m j : ℕ) → k < m → m ≤ j → j < second_end s k → j < (header s).statements → end_below s j m ≤ second_end s k
  end_inside k zero j h g l b = absurd (omega arith)
  end_inside k (suc m) j h g l b = go (dec_lt k m) (end_inside k m)
    where
      go :
          Dec (k < m)
          → ((j : ℕ) → k < m → m ≤ j → j < second_end s k → j < (header s).statements → end_below s j m ≤ second_end s k)
          → end_below s j (suc m) ≤ second_end s k
      go (yes p) ih = by (around s j m)
        where
          all : second_end s m ≤ second_end s k
          all = le_trans (bodies_inside holds m (omega arith)) (ih m p (le_refl m) (omega arith) (omega arith))

          by : {e : ℕ} → Around s j m e → e ≤ second_end s k
          by (in_first q) = le_trans (first_le_second s m) all
          by (in_second q r) = all
          by (in_neither q) = ih j p (omega arith) l b
      go (no p) ih = let e : m ≡ k = omega arith in by e (around s j m)
        where
          by : {e : ℕ} → m ≡ k → Around s j m e → e ≤ second_end s k
          by p (in_first q) = rw p (first_le_second s k)
          by p (in_second q r) = rw p (le_refl (second_end s k))
          by p (in_neither q) = absurd (omega (arith, ap (second_end s) p))

  inner_inside : (k j : ℕ) → k < j → j < (header s).statements → j < second_end s k → second_end s j ≤ second_end s k
  inner_inside k j h b l = le_trans (bodies_inside holds j b) (end_inside k j j h (le_refl j) l b)

  -- around a statement in a body of j stand the bodies that are around j
  same_around :
      (i j : ℕ) → j ≤ i → j < (header s).statements → i < second_end s j → (m : ℕ) → m ≤ j → around_count s i m ≡ around_count s j m
  same_around i j h b l zero g = count_none s i ∙ sym (count_none s j)
  same_around i j h b l (suc m) g = go (dec_lt j (second_end s m)) (same_around i j h b l m (omega arith))
    where
      go : Dec (j < second_end s m) → around_count s i m ≡ around_count s j m → around_count s i (suc m) ≡ around_count s j (suc m)
      go (yes p) ih =
          count_more s i m (le_trans l (inner_inside m j g b p)) ∙ ap suc ih ∙ sym (count_more s j m p)
      go (no p) ih = count_same s i m (omega arith) ∙ ih ∙ sym (count_same s j m (omega arith))

  nesting_inner :
      (i j : ℕ) → i < (header s).statements → owner s i i ≡ suc j
      → length (ends_around s i i) ≡ suc (length (ends_around s j j))
  unfolding around_count
  nesting_inner i j b e =
      let l = owner_holds s i i j e in
      let le = owner_le s i i in
      count_by-owner s i i ∙ ap (around_count s i) e ∙ count_more s i j l
      ∙ ap suc (same_around i j (omega arith) (omega arith) l j (le_refl j))

module _ (s : List ℕ) (i : ℕ) where
  nesting_top : owner s i i ≡ 0 → length (ends_around s i i) ≡ 0
  unfolding around_count
  nesting_top e = count_by-owner s i i ∙ ap (around_count s i) e ∙ count_none s i

-- ------------------------------------------------------------------------------------------------
-- The ends that the walk keeps

-- the first n of a list are the ends of a statement, of its owner, of that one's owner and so on, the innermost last; o is one more
-- than the statement's number, and 0 for none
pub data Kept (s ends : List ℕ) : ℕ → ℕ → Type 0 where
  none : Kept s ends 0 0
  inner : {j n : ℕ} → get_or ends n 0 ≡ second_end s j → Kept s ends (owner s j j) n → Kept s ends (suc j) (suc n)

module _ {s ends : List ℕ} where
  -- where those that statement i has reached are dropped, its owner's are left
  pub kept_left :
      (i : ℕ) {o n r : ℕ} → Kept s ends o n → o ≤ i → owner s i i ≡ owner s i o → Left ends n i r → Kept s ends (owner s i i) r
  kept_left i {r = r} none h e left =
      let zero : 0 ≡ r = omega (arith, left.among) in
      subst (λ (r : ℕ). Kept s ends (owner s i i) r) zero
      (subst (λ (o : ℕ). Kept s ends o 0) (sym (e ∙ owner_none s i)) none)
  kept_left i {r = r} (inner {j} {n} is outer) h e left = go (dec_lt n r) (kept_left i {r = r} outer)
    where
      go :
          Dec (n < r)
          → (owner s j j ≤ i → owner s i i ≡ owner s i (owner s j j) → Left ends n i r → Kept s ends (owner s i i) r)
          → Kept s ends (owner s i i) r
      go (yes p) ih =
          let all : suc n ≡ r = omega (arith, left.among) in
          let last : r - 1 ≡ n = omega (arith, all) in
          let reach : i < get_or ends n 0 = subst (λ (k : ℕ). i < get_or ends k 0) last (left.kept (omega arith)) in
          let here = e ∙ owner_here s i j (omega (arith, is)) in
          subst (λ (r : ℕ). Kept s ends (owner s i i) r) all (subst (λ (o : ℕ). Kept s ends o (suc n)) (sym here) (inner is outer))
      go (no p) ih =
          let past : second_end s j ≤ i = omega (arith, is, left.dropped n (omega arith) (omega arith)) in
          ih (omega (arith, owner_le s j j)) (e ∙ owner_climbs s i j (omega arith) past)
          (record { among = omega arith; dropped = λ k a b. left.dropped k a (omega arith); kept = left.kept })

  -- an end that is stored behind them
  kept_set : (m v : ℕ) {o n : ℕ} → Kept s ends o n → n ≤ m → Kept s (set ends m v) o n
  kept_set m v none h = none
  kept_set m v (inner {j} {n} is outer) h =
      inner (get_or-set_other ends m n v 0 (λ e. absurd (omega arith)) ∙ is) (kept_set m v outer (omega arith))

  pub kept_more :
      {i n v o m : ℕ} → Kept s ends (owner s i i) n → n < length ends → v ≡ second_end s i → suc i ≡ o → suc n ≡ m
      → Kept s (set ends n v) o m
  kept_more {i} {n} {v} {o} {m} kept room is p q =
      subst (λ (o : ℕ). Kept s (set ends n v) o m) p
      (subst (λ (m : ℕ). Kept s (set ends n v) (suc i) m) q (inner (get_or-set_same ends n v 0 room ∙ is) (kept_set n v kept (le_refl n))))

  module _ (holds : RecordsHold s) where
    -- as many as there are bodies around statement i
    pub kept_count : {i o n : ℕ} → i < (header s).statements → Kept s ends o n → owner s i i ≡ o → length (ends_around s i i) ≡ n
    kept_count {i = i} b none e = nesting_top s i e
    kept_count {i = i} b (inner {j} is outer) e =
        nesting_inner holds i j b e ∙ ap suc (kept_count {i = j} (omega (arith, owner_le s i i)) outer refl)

    -- bodies end inside the table
    pub end_inside_all : {i o n : ℕ} → i < (header s).statements → Kept s ends o n → owner s i i ≡ o → second_end s i ≤ (header s).statements
    end_inside_all {i = i} b none e = omega (arith, bodies_inside holds i b, block_end-is s i, outermost_end s i e)
    end_inside_all {i = i} b (inner {j} is outer) e =
        let below : j < i = omega (arith, owner_le s i i) in
        le_trans (inner_inside holds j i below b (owner_holds s i i j e)) (end_inside_all {i = j} (omega arith) outer refl)
