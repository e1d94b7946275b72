-- The bytes that a value is stored as, one by one. Assumes nothing.
use Rattle.std.proofs.Common.{◌≡◌, ℕ, zero, suc, ◌+◌, ◌-◌, ◌*◌, ◌/◌, ◌%◌, ◌^◌, ◌<◌, Bool, true, false, List, [], ◌∷◌, length, get_or, sym, refl, ap, ◌∙◌, not-suc-le-zero, arith, shr-shr}
use mathlib.Core.List.{reverse_aux}
use native.Mathlib.Decide.{dec_lt}
use lib.ListN.{get_or-replicate}
use Rattle.value.specs.declared.Value.{Value}
use Rattle.value.specs.declared.Value.TheVariants.{Word, Unknown, Memory}
use Rattle.table.specs.Asked.{SizeOk}
use Rattle.memory.specs.Log.{unknown_byte}
use Rattle.memory.specs.Access.{in_order, bytes_of, bytes_in}
use Rattle.memory.proofs.AccessKeeps.{length-bytes_in}

-- ------------------------------------------------------------------------------------------------
-- A list from its end

get_or-behind : (l r : List ℕ) (k : ℕ) → get_or (reverse_aux l r) (length l + k) 0 ≡ get_or r k 0
get_or-behind [] r k = ap (λ (n : ℕ). get_or r n 0) (omega arith)
get_or-behind (x ∷ l) r k = ap (λ (n : ℕ). get_or (reverse_aux l (x ∷ r)) n 0) (omega arith) ∙ get_or-behind l (x ∷ r) (suc k)

get_or-reverse_aux : (l r : List ℕ) (i : ℕ) → i < length l → get_or (reverse_aux l r) i 0 ≡ get_or l (length l - suc i) 0
get_or-reverse_aux [] r i h = absurd (not-suc-le-zero h)
get_or-reverse_aux (x ∷ l) r i h = go (dec_lt i (length l)) (get_or-reverse_aux l (x ∷ r) i)
  where
    go : Dec (i < length l) → (i < length l → get_or (reverse_aux l (x ∷ r)) i 0 ≡ get_or l (length l - suc i) 0)
        → get_or (reverse_aux l (x ∷ r)) i 0 ≡ get_or (x ∷ l) (suc (length l) - suc i) 0
    go (yes k) ih = let e : suc (length l) - suc i ≡ suc (length l - suc i) = omega arith in ih k ∙ ap (λ (n : ℕ). get_or (x ∷ l) n 0) (sym e)
    go (no k) ih =
        let e : i ≡ length l + 0 = omega arith in
        let z : suc (length l) - suc i ≡ 0 = omega arith in
        ap (λ (n : ℕ). get_or (reverse_aux l (x ∷ r)) n 0) e ∙ get_or-behind l (x ∷ r) 0 ∙ ap (λ (n : ℕ). get_or (x ∷ l) n 0) (sym z)

-- ------------------------------------------------------------------------------------------------
-- The bytes of a word

get_or-bytes_of : (n v i : ℕ) → i < n → get_or (bytes_of n v) i 0 ≡ v / 2 ^ (8 * i) % 256
unfolding bytes_of
get_or-bytes_of zero v i h = absurd (not-suc-le-zero h)
get_or-bytes_of (suc n) v zero h = omega arith
get_or-bytes_of (suc n) v (suc i) h =
    let e : 8 * suc i ≡ 8 + 8 * i = omega arith in
    get_or-bytes_of n (v / 256) i (omega arith) ∙ ap (λ (m : ℕ). m % 256) (shr-shr v 8 (8 * i) ∙ ap (λ (k : ℕ). v / 2 ^ k) (sym e))

-- ------------------------------------------------------------------------------------------------
-- The i-th byte that is stored

module _ {z i : ℕ} (size : SizeOk z) (h : i < z / 8) where
  pub byte_little : (w v : ℕ) → get_or (bytes_in z false (Word w v)) i 0 ≡ v / 2 ^ (8 * i) % 256
  unfolding bytes_in in_order
  byte_little w v = get_or-bytes_of (z / 8) v i h

  pub byte_big : (w v : ℕ) → get_or (bytes_in z true (Word w v)) i 0 ≡ v / 2 ^ (z - 8 - 8 * i) % 256
  unfolding bytes_in in_order
  byte_big w v =
      let n = length-bytes_in z false (Word w v) in
      let m = size.multiple in
      let e : 8 * (z / 8 - suc i) ≡ z - 8 - 8 * i = omega arith in
      get_or-reverse_aux (bytes_of (z / 8) v) [] i (omega arith)
      ∙ ap (λ (k : ℕ). get_or (bytes_of (z / 8) v) (k - suc i) 0) n
      ∙ get_or-bytes_of (z / 8) v (z / 8 - suc i) (omega arith)
      ∙ ap (λ (k : ℕ). v / 2 ^ k % 256) e

  -- of what is no word
  pub byte_other : (big : Bool) (v : Value) → ((w x : ℕ) → v ≡ Word w x → ⊥) → unknown_byte ≡ get_or (bytes_in z big v) i 0
  unfolding bytes_in
  byte_other big (Word w x) never = absurd (never w x refl)
  byte_other big (Unknown t) never = sym (get_or-replicate (z / 8) i unknown_byte 0 h)
  byte_other big (Memory w head) never = sym (get_or-replicate (z / 8) i unknown_byte 0 h)
