-- What an operation gives is a word of its width, and what it takes to promise that. Assumes nothing.
use Rattle.std.proofs.Common.{◌≡◌, ℕ, zero, suc, ◌+◌, ◌-◌, ◌/◌, ◌%◌, ◌^◌, ◌<◌, ◌≤◌, min, max, Bool, true, false, eqb, ℤ, pos, negsuc, sym, ap, ◌∙◌, subst, lt_of_le_of_lt, mod-lt, pow-suc, div-le_self, arith, lit<, pow_pos, pow-add, shr_lt, eq-eqb, ne_eqb, Option, Some, None, if◌then◌else◌}
use Rattle.std.proofs.Math.Nat.{mod-le}
use Rattle.std.proofs.Math.Arith.{digits_lt}
use Rattle.word.specs.Words as Words
use Rattle.word.specs.Words.{Gives, Computes, FitsIn, bit, bitwise, word_of, unless_zero}

-- ------------------------------------------------------------------------------------------------
-- What fits

pub mod_fits : (w n : ℕ) → n % 2 ^ w < 2 ^ w
mod_fits w n = mod-lt n (pow_pos w)

pub word_fits : (w : ℕ) (z : ℤ) → word_of w z < 2 ^ w
unfolding word_of
word_fits w (pos n) = mod_fits w n
word_fits w (negsuc n) = omega (arith, pow_pos w)

pub bit_fits : (t : Bool) → bit t < 2 ^ 1
bit_fits true = lit< tt
bit_fits false = lit< tt

pub not_fits : (w a : ℕ) → Words.not w a < 2 ^ w
not_fits w a = omega (arith, pow_pos w)

pub div_fits : (w : ℕ) {a : ℕ} (b : ℕ) → a < 2 ^ w → a / b < 2 ^ w
div_fits w {a} b h = lt_of_le_of_lt (div-le_self a b) h

pub rem_fits : (w : ℕ) {a : ℕ} (b : ℕ) → a < 2 ^ w → a % b < 2 ^ w
rem_fits w {a} b h = lt_of_le_of_lt (mod-le a b) h

pub unless_zero-fits : (w b : ℕ) {r : ℕ} → r < 2 ^ w → FitsIn w (unless_zero b r)
unless_zero-fits w b {r} h = elim (eqb b 0) as (λ t. FitsIn w (if t then None else Some r)) [ true ↦ tt | false ↦ h ]

module _ (f : ℕ → ℕ → ℕ) (f-bit : (x y : ℕ) → x < 2 → y < 2 → f x y < 2) where
  pub bitwise_fits : (w a b : ℕ) → bitwise f w a b < 2 ^ w
  bitwise_fits zero a b = lit< tt
  bitwise_fits (suc w) a b = omega (arith, bitwise_fits w (a / 2) (b / 2), pow-suc 2 w, f-bit (a % 2) (b % 2) (omega arith) (omega arith))

pub and_fits : (w a b : ℕ) → Words.and w a b < 2 ^ w
and_fits = bitwise_fits min (λ x y h l. omega arith)

pub or_fits : (w a b : ℕ) → Words.or w a b < 2 ^ w
or_fits = bitwise_fits max (λ x y h l. omega arith)

pub xor_fits : (w a b : ℕ) → Words.xor w a b < 2 ^ w
xor_fits = bitwise_fits (λ x y. (x + y) % 2) (λ x y h l. omega arith)

pub high_fits : (w p a : ℕ) → p ≤ w → a < 2 ^ w → Words.high w p a < 2 ^ p
high_fits w p a h l =
    let e : w ≡ p + (w - p) = omega arith in
    shr_lt p (w - p) (subst (λ (n : ℕ). a < 2 ^ n) e l)

pub concat_fits : (w v a b : ℕ) → a < 2 ^ w → b < 2 ^ v → Words.concat v a b < 2 ^ (w + v)
concat_fits w v a b ha hb = rw pow-add (digits_lt ha hb)

-- ------------------------------------------------------------------------------------------------
-- A promise from what a result is and that this fits

pub gives : {w x r : ℕ} → r ≡ x → x < 2 ^ w → Gives w x r
gives {w} e h = record { is = e; fits = subst (λ (n : ℕ). n < 2 ^ w) (sym e) h }

-- what a callee gives is x, and x is y
pub gives_too : {w x y r : ℕ} → Gives w x r → x ≡ y → Gives w y r
gives_too g e = record { is = g.is ∙ e; fits = g.fits }

pub computes : {w : ℕ} {x r : Option ℕ} → r ≡ x → FitsIn w x → Computes w x r
computes {w} e h = record { is = e; fits = subst (FitsIn w) (sym e) h }

pub by_zero : (w b r : ℕ) → b ≡ 0 → Computes w (unless_zero b r) None
by_zero w b r e = record { is = rw (eq-eqb b 0 e); fits = tt }

pub by_nonzero : (w b : ℕ) {r s : ℕ} → (b ≡ 0 → ⊥) → Gives w r s → Computes w (unless_zero b r) (Some s)
by_nonzero w b n g = record { is = rw (ne_eqb b 0 n) (ap Some g.is); fits = g.fits }
