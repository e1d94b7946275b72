-- Quotient and remainder of signed readings, by sign and magnitude. Assumes nothing.
use Rattle.std.proofs.Common.{◌≡◌, ℕ, suc, ◌-◌, ◌/◌, ◌%◌, ◌^◌, ◌<◌, ◌≤◌, Bool, not, ℤ, pos, nat_abs, true, false, ◌⊎◌, inl, inr, eq-zero-or-pos, sym, subst, refl, ap, ◌∙◌, ap₂, div-one, arith, pow_pos, ne_eqb, int_div, int_rem, Some, None}
use Rattle.std.proofs.Math.Bool.{beq}
use Rattle.word.specs.Words as Words
use Rattle.word.specs.Words.{IsWord, AreWords, Gives, Computes, negative, signed, unless_zero, with_sign, word_of}
use Rattle.word.proofs.FitLaws.{gives_too, by_zero, by_nonzero}
use Rattle.word.proofs.WidthLaws.{halves}
use Rattle.word.proofs.SignedLaws.{Reading, plain, below, reading, abs_is, abs_pos, abs_nonzero, signed_neg, word_pos, word_with_sign}

-- ------------------------------------------------------------------------------------------------
-- Sign and magnitude

-- a quotient is below zero where the signs differ
pub quot_with_sign : {w a b : ℕ} {z d : ℤ} {t u : Bool} → Reading w a z t → Reading w b d u → int_div z d ≡ with_sign (not (beq t u)) (nat_abs z / nat_abs d)
quot_with_sign (plain h) (plain l) = refl
quot_with_sign (plain h) (below l) = refl
quot_with_sign (below h) (plain l) = refl
quot_with_sign (below h) (below l) = refl

-- a remainder has the dividend's sign
pub rem_with_sign : {w a : ℕ} {z : ℤ} {t : Bool} → Reading w a z t → (d : ℤ) → int_rem z d ≡ with_sign t (nat_abs z % nat_abs d)
rem_with_sign (plain h) d = refl
rem_with_sign (below h) d = refl

-- ------------------------------------------------------------------------------------------------
-- "the lowest number divided by minus one is itself"

pub lowest_by_minus_one : (w : ℕ) → 1 ≤ w → Words.sdiv w (2 ^ (w - 1)) (2 ^ w - 1) ≡ Some (2 ^ (w - 1))
lowest_by_minus_one w p =
    let d = halves w p in
    let h = pow_pos (w - 1) in
    let low : 2 ^ (w - 1) < 2 ^ w = omega arith in
    let m : suc (2 ^ w - suc (2 ^ (w - 1))) ≡ 2 ^ (w - 1) = omega arith in
    let n : suc (2 ^ w - suc (2 ^ w - 1)) ≡ 1 = omega arith in
    rw (ne_eqb (2 ^ w - 1) 0 (λ e. omega arith), signed_neg w (2 ^ (w - 1)) (omega arith) low, signed_neg w (2 ^ w - 1) (omega arith) (omega arith))
    (ap Some (ap (λ (x : ℕ). word_of w (pos x)) (ap₂ ◌/◌ m n ∙ div-one (2 ^ (w - 1))) ∙ word_pos w (2 ^ (w - 1)) low))

-- ------------------------------------------------------------------------------------------------
-- What the functions promise

-- of a word below zero the magnitude is its negative, else it is the word
pub magnitude_below : (w a r : ℕ) → IsWord w a → negative w a ≡ true → Gives w (Words.neg w a) r → Gives w (nat_abs (signed w a)) r
magnitude_below w a r h e g = gives_too g (sym (abs_is (reading w a true (sym e) h.fits) h.fits))

pub magnitude_plain : (w a : ℕ) → IsWord w a → negative w a ≡ false → Gives w (nat_abs (signed w a)) a
magnitude_plain w a h e = record { is = sym (abs_is (reading w a false (sym e) h.fits) h.fits); fits = h.fits }

-- the word of a number, or neg of it
pub signed_minus : (w n r : ℕ) (t : Bool) → IsWord w n → t ≡ true → Gives w (Words.neg w n) r → Gives w (word_of w (with_sign t n)) r
signed_minus w n r t h e g = gives_too g (sym (ap (λ (b : Bool). word_of w (with_sign b n)) e ∙ word_with_sign w n true h.fits))

pub signed_plain : (w n : ℕ) (t : Bool) → IsWord w n → t ≡ false → Gives w (word_of w (with_sign t n)) n
signed_plain w n t h e =
    record { is = sym (ap (λ (b : Bool). word_of w (with_sign b n)) e ∙ word_with_sign w n false h.fits); fits = h.fits }

-- m and n are the magnitudes: that of a divisor is 0 where the divisor is
pub no_divisor : (w b n r : ℕ) → b < 2 ^ w → Gives w (nat_abs (signed w b)) n → (0 < n → ⊥) → Computes w (unless_zero b r) None
no_divisor w b n r l g z = go (eq-zero-or-pos b)
  where
    go : (b ≡ 0) ⊎ (0 < b) → Computes w (unless_zero b r) None
    go (inl e) = by_zero w b r e
    go (inr p) = absurd (z (subst (λ (x : ℕ). 0 < x) (sym g.is) (abs_pos w b l (λ e. omega arith))))

divisor : (w b n : ℕ) → b < 2 ^ w → Gives w (nat_abs (signed w b)) n → 0 < n → b ≡ 0 → ⊥
divisor w b n l g p = abs_nonzero w b l (subst (λ (x : ℕ). 0 < x) g.is p)

pub sdiv_gives : (w a b m n q s : ℕ) (t u : Bool) → AreWords w a b → Gives w (nat_abs (signed w a)) m → Gives w (nat_abs (signed w b)) n
    → 0 < n → q ≡ m / n → t ≡ negative w a → u ≡ negative w b → Gives w (word_of w (with_sign (not (beq t u)) q)) s
    → Computes w (Words.sdiv w a b) (Some s)
sdiv_gives w a b m n q s t u h x y p e f g k =
    by_nonzero w b (divisor w b n h.right y p)
    (gives_too k
    (ap (λ (z : ℤ). word_of w z)
    (ap (with_sign (not (beq t u))) (e ∙ ap₂ ◌/◌ x.is y.is) ∙ sym (quot_with_sign (reading w a t f h.left) (reading w b u g h.right)))))

pub smod_gives : (w a b m n q s : ℕ) (t : Bool) → AreWords w a b → Gives w (nat_abs (signed w a)) m → Gives w (nat_abs (signed w b)) n
    → 0 < n → q ≡ m % n → t ≡ negative w a → Gives w (word_of w (with_sign t q)) s
    → Computes w (Words.smod w a b) (Some s)
smod_gives w a b m n q s t h x y p e f k =
    by_nonzero w b (divisor w b n h.right y p)
    (gives_too k
    (ap (λ (z : ℤ). word_of w z)
    (ap (with_sign t) (e ∙ ap₂ ◌%◌ x.is y.is) ∙ sym (rem_with_sign (reading w a t f h.left) (signed w b)))))
