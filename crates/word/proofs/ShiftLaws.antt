-- Shifts: by less than the width they are the machine's, and by more what paper 01 says. Assumes nothing.
use Rattle.std.proofs.Common.{◌≡◌, ℕ, suc, ◌-◌, ◌*◌, ◌/◌, ◌%◌, ◌^◌, ◌<◌, ◌≤◌, min, Bool, true, false, ℤ, refl, sym, ap, ◌∙◌, lt_of_le_of_lt, le_of_lt, div-le_self, arith, pow_pos, if◌then◌else◌}
use Rattle.std.proofs.Math.Nat.{mul-mod_left, div-eq_of_lt, sub-zero, min-eq_left, min-eq_right}
use Rattle.std.specs.Int.Signed.{shr_z}
use Rattle.word.specs.Words as Words
use Rattle.word.specs.Words.{AreWords, Gives, negative, signed, word_of}
use Rattle.word.proofs.FitLaws.{gives, word_fits}
use Rattle.word.proofs.SignedLaws.{Reading, plain, below, reading, word_pos, word_negsuc}

-- ------------------------------------------------------------------------------------------------
-- "A shift by the width or more gives zeros, for asr the sign."

pub lsl_wide : (w a b : ℕ) → w ≤ b → Words.lsl w a b ≡ 0
lsl_wide w a b h = rw (min-eq_right {n = w} {m = b} h) (mul-mod_left a (2 ^ w))

pub lsr_wide : (w a b : ℕ) → a < 2 ^ w → w ≤ b → Words.lsr w a b ≡ 0
lsr_wide w a b l h = rw (min-eq_right {n = w} {m = b} h) (div-eq_of_lt l)

-- a shift by less than the width
pub lsl_narrow : (w a b : ℕ) → b < w → Words.lsl w a b ≡ a * 2 ^ b % 2 ^ w
lsl_narrow w a b h = rw (min-eq_left {n = b} {m = w} (le_of_lt h))

pub lsr_narrow : (w a b : ℕ) → b < w → Words.lsr w a b ≡ a / 2 ^ b
lsr_narrow w a b h = rw (min-eq_left {n = b} {m = w} (le_of_lt h))

-- ------------------------------------------------------------------------------------------------
-- asr

-- of a word below zero the complement is divided
pub word_shifted : {w a : ℕ} {z : ℤ} {t : Bool} (m : ℕ) → Reading w a z t → a < 2 ^ w
    → word_of w (shr_z z m) ≡ (if t then 2 ^ w - 1 - (2 ^ w - 1 - a) / m else a / m)
word_shifted {w} {a} m (plain h) l = word_pos w (a / m) (lt_of_le_of_lt (div-le_self a m) l)
word_shifted {w} {a} m (below h) l =
    let e : 2 ^ w - suc a ≡ 2 ^ w - 1 - a = omega arith in
    let s : (n : ℕ) → 2 ^ w - suc n ≡ 2 ^ w - 1 - n = λ n. omega arith in
    word_negsuc w ((2 ^ w - suc a) / m) (lt_of_le_of_lt (div-le_self (2 ^ w - suc a) m) (omega (arith, pow_pos w)))
    ∙ s ((2 ^ w - suc a) / m) ∙ ap (λ (n : ℕ). 2 ^ w - 1 - n / m) e

pub asr_wide : (w a b : ℕ) → a < 2 ^ w → w ≤ b → Words.asr w a b ≡ (if negative w a then 2 ^ w - 1 else 0)
asr_wide w a b l h = word_shifted (2 ^ min b w) (reading w a (negative w a) refl l) l ∙ go (negative w a)
  where
    go : (t : Bool) → (if t then 2 ^ w - 1 - Words.lsr w (2 ^ w - 1 - a) b else Words.lsr w a b) ≡ (if t then 2 ^ w - 1 else 0)
    go true = rw (lsr_wide w (2 ^ w - 1 - a) b (omega (arith, pow_pos w)) h) (sub-zero (2 ^ w - 1))
    go false = lsr_wide w a b l h

-- ------------------------------------------------------------------------------------------------
-- What the functions promise

-- m is the mask, and r the complement shifted
pub asr_below : (w a b m r : ℕ) → AreWords w a b → negative w a ≡ true → m ≡ 2 ^ w - 1 → r ≡ Words.lsr w (m - a) b
    → Gives w (Words.asr w a b) (m - r)
asr_below w a b m r h e f g =
    gives
    (ap (λ (n : ℕ). m - n) g ∙ ap (λ (n : ℕ). n - Words.lsr w (n - a) b) f
    ∙ sym (word_shifted (2 ^ min b w) (reading w a true (sym e) h.left) h.left))
    (word_fits w (shr_z (signed w a) (2 ^ min b w)))

pub asr_plain : (w a b : ℕ) → AreWords w a b → negative w a ≡ false → Gives w (Words.asr w a b) (Words.lsr w a b)
asr_plain w a b h e =
    gives (sym (word_shifted (2 ^ min b w) (reading w a false (sym e) h.left) h.left)) (word_fits w (shr_z (signed w a) (2 ^ min b w)))
