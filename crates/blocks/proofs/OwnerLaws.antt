-- The owner of a statement: how it is found from the owners of those before it, and that it tells where the block ends. Bodies need not
-- nest for either. Assumes nothing.
use mathlib.Core.Path.{◌≡◌, refl, sym, ◌∙◌, ap}
use mathlib.Core.Bool.{Bool}
use mathlib.Core.List.{List}
use Prim.Native.Nat.{ℕ, zero, suc, ◌+◌, ◌≤◌, ◌<◌}
use native.Mathlib.Decide.{dec_lt, dec_le}
use native.Mathlib.Nat.{le_trans}
use native.Mathlib.Omega.{arith}
use lib.Dec.{ltb}
use lib.ListN.{length, get_or, set}
use lib.Seq.{get_or-set_same, get_or-set_other}
use borrow.Author.Tests.{lt-ltb, le-ltb}
use Rattle.std.specs.Prelude.{if◌then◌else◌}
use Rattle.table.specs.Bytes.{header}
use Rattle.table.specs.Records.{first_end, second_end, block_end}
use Rattle.blocks.specs.Owners.{owner, FirstAre, Known}
use Rattle.table.proofs.Nesting.{end_below, block_end-is, end_outermost, first_le_second, Around, in_first, in_second, in_neither, around}

module _ (s : List ℕ) (i : ℕ) where
  -- ------------------------------------------------------------------------------------------------
  -- By the statement just below

  pub owner_none : owner s i 0 ≡ 0
  unfolding owner
  owner_none = refl

  pub owner_here : (j : ℕ) → i < second_end s j → owner s i (suc j) ≡ suc j
  unfolding owner
  owner_here j h = ap (λ (t : Bool). if t then suc j else owner s i j) (lt-ltb i (second_end s j) h)

  pub owner_before : (j : ℕ) → second_end s j ≤ i → owner s i (suc j) ≡ owner s i j
  unfolding owner
  owner_before j h = ap (λ (t : Bool). if t then suc j else owner s i j) (le-ltb i (second_end s j) h)

  pub owner_le : (j : ℕ) → owner s i j ≤ j
  owner_le zero = omega (arith, owner_none)
  owner_le (suc j) = go (dec_lt i (second_end s j)) (owner_le j)
    where
      go : Dec (i < second_end s j) → owner s i j ≤ j → owner s i (suc j) ≤ suc j
      go (yes h) ih = omega (arith, owner_here j h)
      go (no h) ih = omega (arith, owner_before j (omega arith))

  -- the owner holds i
  pub owner_holds : (m j : ℕ) → owner s i m ≡ suc j → i < second_end s j
  owner_holds zero j e = absurd (omega (arith, owner_none))
  owner_holds (suc m) j e = go (dec_lt i (second_end s m)) (owner_holds m j)
    where
      go : Dec (i < second_end s m) → (owner s i m ≡ suc j → i < second_end s j) → i < second_end s j
      go (yes h) ih = let same : j ≡ m = omega (arith, owner_here m h) in rw same h
      go (no h) ih = ih (omega (arith, owner_before m (omega arith)))

  -- statements between the owner and j don't hold i
  highest : (j k : ℕ) → owner s i j ≤ k → k < j → second_end s k ≤ i
  highest zero k h l = absurd (omega arith)
  highest (suc j) k h l = go (dec_lt i (second_end s j)) (dec_lt k j) (highest j k)
    where
      go : Dec (i < second_end s j) → Dec (k < j) → (owner s i j ≤ k → k < j → second_end s k ≤ i) → second_end s k ≤ i
      go (yes p) d ih = absurd (omega (arith, owner_here j p))
      go (no p) (yes q) ih = ih (omega (arith, owner_before j (omega arith))) q
      go (no p) (no q) ih = let e : k ≡ j = omega arith in rw e (omega arith)

  -- statements from m on that don't hold i don't matter
  owner_skips : (m j : ℕ) → m ≤ j → ((k : ℕ) → m ≤ k → k < j → second_end s k ≤ i) → owner s i j ≡ owner s i m
  owner_skips m zero h f = let e : m ≡ 0 = omega arith in rw e
  owner_skips m (suc j) h f = go (dec_le m j) (owner_skips m j)
    where
      go :
          Dec (m ≤ j) → (m ≤ j → ((k : ℕ) → m ≤ k → k < j → second_end s k ≤ i) → owner s i j ≡ owner s i m)
          → owner s i (suc j) ≡ owner s i m
      go (yes l) ih = owner_before j (f j l (omega arith)) ∙ ih l (λ k p q. f k p (omega arith))
      go (no l) ih = let e : m ≡ suc j = omega arith in rw e

-- where j doesn't hold i the search goes on at j's owner
pub owner_climbs : (s : List ℕ) (i j : ℕ) → j ≤ i → second_end s j ≤ i → owner s i (suc j) ≡ owner s i (owner s j j)
owner_climbs s i j h l =
    owner_before s i j l ∙ owner_skips s i (owner s j j) j (owner_le s j j) (λ k p q. le_trans (highest s j j k p q) h)

-- ------------------------------------------------------------------------------------------------
-- From owner to owner

-- the search for i's owner has come to n: the owner is among the statements below n
pub record Climbed (s : List ℕ) (i n : ℕ) : Type 0 where
  pub inside : n ≤ i
  pub same : owner s i i ≡ owner s i n

module _ {s : List ℕ} {i n : ℕ} (so : Climbed s i n) where
  -- the statement below n holds i
  pub climbed_here : (j : ℕ) → n ≡ suc j → i < second_end s j → n ≡ owner s i i
  climbed_here j one held = sym (so.same ∙ ap (owner s i) one ∙ owner_here s i j held ∙ sym one)

  -- it doesn't: the search goes on at its own owner
  pub climbed_on :
      {owners : List ℕ} (j : ℕ) → Known s i owners → n ≡ suc j → second_end s j ≤ i → (get_or owners j 0 < n) × Climbed s i (get_or owners j 0)
  climbed_on j known one passed =
      let inside = so.inside in
      let is = known.at j (omega arith) in
      let below = owner_le s j j in (
        omega arith,
        record {
          inside = omega arith;
          same = so.same ∙ ap (owner s i) one ∙ owner_climbs s i j (omega arith) passed ∙ ap (owner s i) (sym is);
        },
      )

  -- no statement is left
  pub climbed_out : n ≤ 0 → 0 ≡ owner s i i
  climbed_out none = let zero : n ≡ 0 = omega arith in sym (so.same ∙ ap (owner s i) zero ∙ owner_none s i)

-- ------------------------------------------------------------------------------------------------
-- Where the block around a statement ends

end_at : List ℕ → ℕ → ℕ → ℕ
end_at s i zero = (header s).statements
end_at s i (suc j) = if ltb i (first_end s j) then first_end s j else second_end s j

end_by-owner : (s : List ℕ) (i j : ℕ) → end_below s i j ≡ end_at s i (owner s i j)
unfolding end_at
end_by-owner s i zero = end_outermost s i ∙ ap (end_at s i) (sym (owner_none s i))
end_by-owner s i (suc j) = go (around s i j) (end_by-owner s i j)
  where
    at : (e : ℕ) → (if ltb i (first_end s j) then first_end s j else second_end s j) ≡ e → i < second_end s j
        → e ≡ end_at s i (owner s i (suc j))
    at e p h = sym p ∙ ap (end_at s i) (sym (owner_here s i j h))

    go : {e : ℕ} → Around s i j e → end_below s i j ≡ end_at s i (owner s i j) → e ≡ end_at s i (owner s i (suc j))
    go (in_first h) ih =
        at (first_end s j) (ap (λ (t : Bool). if t then first_end s j else second_end s j) (lt-ltb i (first_end s j) h))
        (le_trans h (first_le_second s j))
    go (in_second h l) ih =
        at (second_end s j) (ap (λ (t : Bool). if t then first_end s j else second_end s j) (le-ltb i (first_end s j) h)) l
    go (in_neither h) ih = ih ∙ ap (end_at s i) (sym (owner_before s i j h))

module _ (s : List ℕ) (i : ℕ) where
  by_owner : (n : ℕ) → owner s i i ≡ n → block_end s i ≡ end_at s i n
  by_owner n e = block_end-is s i ∙ end_by-owner s i i ∙ ap (end_at s i) e

  pub outermost_end : owner s i i ≡ 0 → block_end s i ≡ (header s).statements
  unfolding end_at
  outermost_end e = by_owner 0 e

  pub first_body-end : (j : ℕ) → owner s i i ≡ suc j → i < first_end s j → block_end s i ≡ first_end s j
  unfolding end_at
  first_body-end j e h = by_owner (suc j) e ∙ ap (λ (t : Bool). if t then first_end s j else second_end s j) (lt-ltb i (first_end s j) h)

  pub second_body-end : (j : ℕ) → owner s i i ≡ suc j → first_end s j ≤ i → block_end s i ≡ second_end s j
  unfolding end_at
  second_body-end j e h = by_owner (suc j) e ∙ ap (λ (t : Bool). if t then first_end s j else second_end s j) (le-ltb i (first_end s j) h)

-- ------------------------------------------------------------------------------------------------
-- A list that is filled from the front

pub first_none : {f : ℕ → ℕ} {list : List ℕ} → FirstAre f 0 list
first_none = record { at = λ k h. absurd (omega arith) }

pub first_more :
    {f : ℕ → ℕ} {n v : ℕ} {list : List ℕ} → FirstAre f n list → n < length list → v ≡ f n → FirstAre f (n + 1) (set list n v)
first_more {f} {n} {v} {list} first room is = record { at = λ k h. go k h (dec_lt k n) }
  where
    go : (k : ℕ) → k < n + 1 → Dec (k < n) → get_or (set list n v) k 0 ≡ f k
    go k h (yes l) = get_or-set_other list n k v 0 (λ e. absurd (omega arith)) ∙ first.at k l
    go k h (no l) = let e : k ≡ n = omega arith in rw e (get_or-set_same list n v 0 room ∙ is)
