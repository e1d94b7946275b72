-- The signed reading of a word, and the word of an integer. Assumes nothing.
use Rattle.std.proofs.Common.{◌≡◌, ℕ, zero, suc, ◌-◌, ◌%◌, ◌^◌, ◌<◌, ◌≤◌, Bool, true, false, ℤ, pos, negsuc, nat_abs, sym, refl, ap, ◌∙◌, mod-eq_of_lt, pos_of_ne-zero, arith, pow_pos, le-ltb, lt-ltb, leb-false, leb-true, if◌then◌else◌}
use Rattle.std.proofs.Math.Nat.{mod_self, sub-zero}
use Rattle.std.proofs.Math.IntN.{sub_ℕ}
use Rattle.word.specs.Words as Words
use Rattle.word.specs.Words.{signed, negative, word_of, with_sign}

-- ------------------------------------------------------------------------------------------------
-- Reading

pub signed_pos : (w a : ℕ) → a < 2 ^ (w - 1) → signed w a ≡ pos a
unfolding signed
signed_pos w a h = ap (λ (t : Bool). if t then pos a else sub_ℕ a (2 ^ w)) (lt-ltb a (2 ^ (w - 1)) h)

pub signed_neg : (w a : ℕ) → 2 ^ (w - 1) ≤ a → a < 2 ^ w → signed w a ≡ negsuc (2 ^ w - suc a)
unfolding signed
signed_neg w a h l = ap (λ (t : Bool). if t then pos a else sub_ℕ a (2 ^ w)) (le-ltb a (2 ^ (w - 1)) h) ∙ rw (lt-ltb a (2 ^ w) l)

-- a word's signed reading, and whether that is below zero: the two cases that each law here goes by
pub data Reading (w a : ℕ) : ℤ → Bool → Type 0 where
  plain : a < 2 ^ (w - 1) → Reading w a (pos a) false
  below : 2 ^ (w - 1) ≤ a → Reading w a (negsuc (2 ^ w - suc a)) true

pub reading : (w a : ℕ) (t : Bool) → t ≡ negative w a → a < 2 ^ w → Reading w a (signed w a) t
reading w a true e l = let h = leb-true (2 ^ (w - 1)) a (sym e) in rw (signed_neg w a h l) (below h)
reading w a false e l = let h = leb-false (2 ^ (w - 1)) a (sym e) in rw (signed_pos w a h) (plain h)

-- ------------------------------------------------------------------------------------------------
-- The word of an integer

pub word_pos : (w n : ℕ) → n < 2 ^ w → word_of w (pos n) ≡ n
unfolding word_of
word_pos w n h = mod-eq_of_lt h

pub word_negsuc : (w n : ℕ) → n < 2 ^ w → word_of w (negsuc n) ≡ 2 ^ w - suc n
unfolding word_of
word_negsuc w n h = ap (λ (x : ℕ). 2 ^ w - suc x) (mod-eq_of_lt h)

-- of a number, or of its negative
pub word_with_sign : (w n : ℕ) (t : Bool) → n < 2 ^ w → word_of w (with_sign t n) ≡ (if t then Words.neg w n else n)
word_with_sign w n false h = word_pos w n h
word_with_sign w zero true h = word_pos w 0 h ∙ sym (ap (λ (x : ℕ). x % 2 ^ w) (sub-zero (2 ^ w)) ∙ mod_self (2 ^ w))
word_with_sign w (suc n) true h =
    let l : n < 2 ^ w = omega arith in
    let b : 2 ^ w - suc n < 2 ^ w = omega arith in
    word_negsuc w n l ∙ sym (mod-eq_of_lt b)

-- ------------------------------------------------------------------------------------------------
-- The magnitude

pub abs_is : {w a : ℕ} {z : ℤ} {t : Bool} → Reading w a z t → a < 2 ^ w → nat_abs z ≡ (if t then Words.neg w a else a)
abs_is (plain h) l = refl
abs_is {w} {a} (below h) l =
    let e : suc (2 ^ w - suc a) ≡ 2 ^ w - a = omega arith in
    let b : 2 ^ w - a < 2 ^ w = omega (arith, pow_pos (w - 1)) in
    e ∙ sym (mod-eq_of_lt b)

-- that of a word that is not 0 is not 0
pub abs_pos : (w a : ℕ) → a < 2 ^ w → (a ≡ 0 → ⊥) → 0 < nat_abs (signed w a)
abs_pos w a l n = go (reading w a (negative w a) refl l)
  where
    go : {z : ℤ} {t : Bool} → Reading w a z t → 0 < nat_abs z
    go (plain h) = pos_of_ne-zero n
    go (below h) = omega arith

-- and a word whose magnitude is not 0 is not 0
pub abs_nonzero : (w a : ℕ) → a < 2 ^ w → 0 < nat_abs (signed w a) → a ≡ 0 → ⊥
abs_nonzero w a l p e = go (reading w a (negative w a) refl l) p
  where
    go : {z : ℤ} {t : Bool} → Reading w a z t → 0 < nat_abs z → ⊥
    go (plain h) p = omega arith
    go (below h) p = omega (arith, pow_pos (w - 1))
