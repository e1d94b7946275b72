-- Where a block ends: the bodies of the statements of a block end inside it, so that what stands behind them is of the same block.
-- Assumes nothing.
use mathlib.Core.Path.{◌≡◌, refl, sym, ◌∙◌, ap, ap₂, subst}
use mathlib.Core.Bool.{Bool, true, false, ◌||◌}
use mathlib.Core.List.{List, [], ◌∷◌}
use Prim.Native.Nat.{ℕ, zero, suc, ◌+◌, ◌≤◌, ◌<◌}
use native.Mathlib.Decide.{dec_lt, dec_le}
use native.Mathlib.Nat.{le_trans, le_refl}
use native.Mathlib.Omega.{arith}
use lib.Dec.{ltb, eqb}
use borrow.Author.Tests.{ltb-true, ltb-false, leb-true, lt-ltb, le-ltb}
use Rattle.std.specs.Prelude.{if◌then◌else◌}
use Rattle.base.proofs.BoolLaws.{and_right}
use Rattle.table.specs.Asked.{IsBlock}
use Rattle.table.specs.Bytes.{header, statement}
use Rattle.table.specs.Fields.{statement_row}
use Rattle.table.specs.Records.{record_ok, first_end, second_end, ends_around, block_end}
use Rattle.table.specs.Records.{RecordsHold}

-- ------------------------------------------------------------------------------------------------
-- The end of the innermost body around statement i, of the bodies of statements below j

pub end_below : List ℕ → ℕ → ℕ → ℕ
end_below s i j = elim (ends_around s i j) [ [] ↦ (header s).statements | e ∷ outer ↦ e ]

pub block_end-is : (s : List ℕ) (i : ℕ) → block_end s i ≡ end_below s i i
unfolding block_end end_below
block_end-is s i = refl

pub end_outermost : (s : List ℕ) (i : ℕ) → end_below s i 0 ≡ (header s).statements
unfolding end_below ends_around
end_outermost s i = refl

pub first_le_second : (s : List ℕ) (j : ℕ) → first_end s j ≤ second_end s j
unfolding second_end
first_le_second s j = omega arith

-- statement i stands in the first or the second body of statement j, or in none of the two
pub data Around (s : List ℕ) (i j : ℕ) : ℕ → Type 0 where
  in_first : i < first_end s j → Around s i j (first_end s j)
  in_second : first_end s j ≤ i → i < second_end s j → Around s i j (second_end s j)
  in_neither : second_end s j ≤ i → Around s i j (end_below s i j)

-- the end by the two tests
end_by : List ℕ → ℕ → ℕ → Bool → Bool → ℕ
end_by s i j t u =
    let outer = ends_around s i j in
    elim (if t then first_end s j ∷ outer else (if u then second_end s j ∷ outer else outer)) [ [] ↦ (header s).statements | e ∷ outer ↦ e ]

pub around : (s : List ℕ) (i j : ℕ) → Around s i j (end_below s i (suc j))
unfolding end_below ends_around end_by
around s i j = go (ltb i (first_end s j)) refl (ltb i (second_end s j)) refl
  where
    go : (t : Bool) → ltb i (first_end s j) ≡ t → (u : Bool) → ltb i (second_end s j) ≡ u → Around s i j (end_by s i j t u)
    go true p u q = in_first (ltb-true i (first_end s j) p)
    go false p true q = in_second (ltb-false i (first_end s j) p) (ltb-true i (second_end s j) q)
    go false p false q = in_neither (ltb-false i (second_end s j) q)

-- there is no other end
end_is : (s : List ℕ) (i j : ℕ) {e : ℕ} → Around s i j e → end_below s i (suc j) ≡ e
unfolding end_below ends_around end_by
end_is s i j (in_first h) = ap (λ (t : Bool). end_by s i j t (ltb i (second_end s j))) (lt-ltb i (first_end s j) h)
end_is s i j (in_second h k) = ap₂ (end_by s i j) (le-ltb i (first_end s j) h) (lt-ltb i (second_end s j) k)
end_is s i j (in_neither h) = ap₂ (end_by s i j) (le-ltb i (first_end s j) (le_trans (first_le_second s j) h)) (le-ltb i (second_end s j) h)

-- a later statement before that end has the same end around it
end_stays : (s : List ℕ) (i k j : ℕ) → i ≤ k → k < end_below s i j → end_below s k j ≡ end_below s i j
unfolding end_below ends_around
end_stays s i k zero h l = refl
end_stays s i k (suc j) h l = go (around s i j) l (end_stays s i k j h)
  where
    go : {e : ℕ} → Around s i j e → k < e → (k < end_below s i j → end_below s k j ≡ end_below s i j) → end_below s k (suc j) ≡ e
    go (in_first p) l f = end_is s k j (in_first l)
    go (in_second p q) l f = end_is s k j (in_second (le_trans p h) l)
    go (in_neither p) l f = end_is s k j (in_neither (le_trans p h)) ∙ f l

-- statements from m on whose bodies end by i don't matter
end_skips : (s : List ℕ) (i m j : ℕ) → m ≤ j → ((k : ℕ) → m ≤ k → k < j → second_end s k ≤ i) → end_below s i j ≡ end_below s i m
end_skips s i m zero h f = let e : m ≡ 0 = omega arith in rw e
end_skips s i m (suc j) h f = go (dec_le m j) (end_skips s i m j)
  where
    go :
        Dec (m ≤ j) → (m ≤ j → ((k : ℕ) → m ≤ k → k < j → second_end s k ≤ i) → end_below s i j ≡ end_below s i m)
        → end_below s i (suc j) ≡ end_below s i m
    go (yes l) ih = end_is s i j (in_neither (f j l (omega arith))) ∙ ih l (λ k p q. f k p (omega arith))
    go (no l) ih = let e : m ≡ suc j = omega arith in rw e

-- ------------------------------------------------------------------------------------------------
-- Blocks

-- "they end inside the block around them"
pub bodies_inside : {s : List ℕ} → RecordsHold s → (j : ℕ) → j < (header s).statements → second_end s j ≤ end_below s j j
bodies_inside {s} holds j h =
    rw (block_end-is s j) at
    (leb-true (second_end s j) (block_end s j)
    (and_right (record_ok s (header s).expressions (statement_row (statement s j)) (statement s j)) _ (holds.statements j h)))

module _ {s : List ℕ} (holds : RecordsHold s) {m l : ℕ} (block : IsBlock s m l) where
  end-at : (k j : ℕ) → m ≡ k → m ≤ j → j < m + l → end_below s j k ≤ m + l
  end-at k j p h i =
      let e : end_below s m m ≡ m + l = sym (block_end-is s m) ∙ block.ends (omega arith) in
      subst (λ (k : ℕ). end_below s j k ≤ m + l) p (omega (arith, end_stays s m j m h (omega arith)))

  end_within : (k j : ℕ) → m ≤ k → k ≤ j → j < m + l → end_below s j k ≤ m + l
  end_within zero j h g i = end-at 0 j (omega arith) (omega arith) i
  end_within (suc k) j h g i = go (dec_le m k) (end_within k)
    where
      go : Dec (m ≤ k) → ((j : ℕ) → m ≤ k → k ≤ j → j < m + l → end_below s j k ≤ m + l) → end_below s j (suc k) ≤ m + l
      go (yes p) ih = by (around s j k)
        where
          all : second_end s k ≤ m + l
          all = le_trans (bodies_inside holds k (omega (arith, block.inside))) (ih k p (le_refl k) (omega arith))

          by : {e : ℕ} → Around s j k e → e ≤ m + l
          by (in_first q) = le_trans (first_le_second s k) all
          by (in_second q r) = all
          by (in_neither q) = ih j p (omega arith) i
      go (no p) ih = end-at (suc k) j (omega arith) (omega arith) i

  -- the bodies of the statements of a block end inside it
  bodies_within : (j : ℕ) → m ≤ j → j < m + l → second_end s j ≤ m + l
  bodies_within j h i = le_trans (bodies_inside holds j (omega (arith, block.inside))) (end_within j j h (le_refl j) i)

-- ------------------------------------------------------------------------------------------------
-- The parts of a block: a statement's bodies, and what stands behind them

-- the first statement's two bodies, and the rest
pub record Parts (s : List ℕ) (n l first second : ℕ) : Type 0 where
  pub fit : first + second ≤ l
  pub first_body : IsBlock s (suc n) first
  pub second_body : IsBlock s (suc n + first) second
  pub rest : (m k : ℕ) → m ≡ suc n + (first + second) → first + second + k ≡ l → IsBlock s m k

module _ {s : List ℕ} (holds : RecordsHold s) {n l : ℕ} (block : IsBlock s n (suc l)) where
  parts : (first second : ℕ) → first_end s n ≡ suc n + first → second_end s n ≡ suc n + first + second → Parts s n l first second
  parts first second f g =
      record { fit = fit; first_body = first_body; second_body = second_body; rest = rest }
    where
      here : end_below s n n ≡ n + suc l
      here = sym (block_end-is s n) ∙ block.ends (omega arith)

      fit : first + second ≤ l
      fit = omega (arith, bodies_inside holds n (omega (arith, block.inside)), here)

      first_body : IsBlock s (suc n) first
      first_body =
          record {
            inside = omega (arith, fit);
            ends = λ h. block_end-is s (suc n) ∙ end_is s (suc n) n (in_first (omega arith)) ∙ f;
          }

      second_body : IsBlock s (suc n + first) second
      second_body =
          record {
            inside = omega (arith, fit);
            ends =
                λ h.
                block_end-is s (suc n + first)
                ∙ end_skips s (suc n + first) (suc n) (suc n + first) (omega arith) (bodies_within holds first_body)
                ∙ end_is s (suc n + first) n (in_second (omega arith) (omega arith))
                ∙ g;
          }

      before_rest : (m : ℕ) → m ≡ suc n + (first + second) → (j : ℕ) → suc n ≤ j → j < m → second_end s j ≤ m
      before_rest m e j h i = go (dec_lt j (suc n + first))
        where
          go : Dec (j < suc n + first) → second_end s j ≤ m
          go (yes k) = omega (arith, bodies_within holds first_body j h k)
          go (no k) = omega (arith, bodies_within holds second_body j (omega arith) (omega arith))

      rest : (m k : ℕ) → m ≡ suc n + (first + second) → first + second + k ≡ l → IsBlock s m k
      rest m k p q =
          record {
            inside = omega (arith, fit);
            ends =
                λ h.
                block_end-is s m
                ∙ end_skips s m (suc n) m (omega arith) (before_rest m p)
                ∙ end_is s m n (in_neither (omega arith))
                ∙ end_stays s n m n (omega arith) (omega (arith, here))
                ∙ omega (arith, here);
          }

  -- by the first statement's op: a while has one body, an if two
  pub parts_by_op :
      (k : ℕ) → (statement s n).op ≡ k → Parts s n l (if eqb k 5 || eqb k 6 then (statement s n).b else 0) (if eqb k 6 then (statement s n).c else 0)
  unfolding first_end second_end
  parts_by_op k op =
      parts _ _ (ap (λ (k : ℕ). suc n + (if eqb k 5 || eqb k 6 then (statement s n).b else 0)) op)
      (ap (λ (k : ℕ). suc n + (if eqb k 5 || eqb k 6 then (statement s n).b else 0) + (if eqb k 6 then (statement s n).c else 0)) op)

-- the whole is a block
pub whole_block : (s : List ℕ) → IsBlock s 0 (header s).statements
unfolding end_below ends_around
whole_block s = record { inside = omega arith; ends = λ h. block_end-is s 0 ∙ omega arith }
