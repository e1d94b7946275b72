-- Widening, extract and concat. Assumes nothing.
use Rattle.std.proofs.Common.{◌≡◌, ℕ, suc, ◌+◌, ◌-◌, ◌*◌, ◌%◌, ◌^◌, ◌<◌, ◌≤◌, Bool, true, false, ℤ, sym, ap, ◌∙◌, lt_of_lt_of_le, arith, pow_pos, pow_mono, shl_exact, bit_or, if◌then◌else◌}
use Rattle.std.proofs.Math.Nat.{div-eq_of_lt, zero-mod}
use Rattle.std.proofs.lemmas.Nat.{or_shifted}
use Rattle.word.specs.Words as Words
use Rattle.word.specs.Words.{negative, word_of}
use Rattle.word.proofs.SignedLaws.{Reading, plain, below, reading, word_pos, word_negsuc}

-- of a word below zero the complement stays
pub word_widened : {w p a : ℕ} {z : ℤ} {t : Bool} → Reading w a z t → w ≤ p → a < 2 ^ w
    → word_of p z ≡ (if t then 2 ^ p - 1 - (2 ^ w - 1 - a) else a)
word_widened {w} {p} {a} (plain h) g l = word_pos p a (lt_of_lt_of_le l (pow_mono g))
word_widened {w} {p} {a} (below h) g l =
    let b : 2 ^ w - suc a < 2 ^ p = omega (arith, pow_pos w, pow_mono g) in
    word_negsuc p (2 ^ w - suc a) b ∙ omega (arith, pow_pos w, pow_mono g)

-- "Extract reads zeros above the word."
pub extract_wide : (p q a : ℕ) → a < 2 ^ q → Words.extract p q a ≡ 0
extract_wide p q a h = rw (div-eq_of_lt {n = a} {m = 2 ^ q} h) (zero-mod (2 ^ (p - q + 1)))

-- so too from bit 64 on
pub extract_above : (p q a : ℕ) → a < 2 ^ 64 → 64 ≤ q → Words.extract p q a ≡ 0
extract_above p q a h l = extract_wide p q a (lt_of_lt_of_le h (pow_mono {i = 64} {j = q} l))

pub concat_is : (w v a b : ℕ) → w + v ≤ 64 → a < 2 ^ w → b < 2 ^ v → Words.concat v a b ≡ bit_or (a * 2 ^ v % 2 ^ 64) b
concat_is w v a b h ha hb = sym (ap (λ (x : ℕ). bit_or x b) (shl_exact w v 64 ha h) ∙ or_shifted a v b hb)

-- ------------------------------------------------------------------------------------------------
-- What the functions promise

pub widened_below : (w p a : ℕ) → a < 2 ^ w → w ≤ p → negative w a ≡ true → Words.widened w p a ≡ 2 ^ p - 1 - (2 ^ w - 1 - a)
widened_below w p a h l e = word_widened (reading w a true (sym e) h) l h

pub widened_plain : (w p a : ℕ) → a < 2 ^ w → w ≤ p → negative w a ≡ false → Words.widened w p a ≡ a
widened_plain w p a h l e = word_widened (reading w a false (sym e) h) l h
