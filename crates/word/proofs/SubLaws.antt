-- What stands under a sub gives a word of its width. Assumes nothing.
use Rattle.std.proofs.Common.{◌≡◌, ℕ, sym, ap, ◌∙◌, Option, ◌+◌, ◌-◌, ◌*◌, ◌^◌, min, not, eqb, ltb, leb, lt_of_lt_of_le, pow_mono, int_lt, int_le, int_div, int_rem, None}
use Rattle.std.specs.Int.Signed.{shr_z}
use Rattle.base.proofs.NumberedLaws.{NoneOf, end, ◌then◌, numbered_all, numbered_other}
use Rattle.word.specs.Words.{IsWord, AreWords, Computes, FitsIn, signed}
use Rattle.word.specs.Subs as Subs
use Rattle.word.proofs.FitLaws.{computes, mod_fits, word_fits, bit_fits, not_fits, div_fits, rem_fits, unless_zero-fits, and_fits, or_fits, xor_fits, high_fits}

-- ------------------------------------------------------------------------------------------------
-- Binary, unary and cast

pub binary_fits : (sub w a b : ℕ) → AreWords w a b → FitsIn (Subs.binary_width sub w) (Subs.binary sub w a b)
binary_fits sub w a b h =
    numbered_all (λ k f. FitsIn (Subs.binary_width k w) (f w a b)) (λ w a b. None) (λ k. tt) Subs.binaries
    (mod_fits w (a + b)
    then mod_fits w (a + (2 ^ w - b))
    then mod_fits w (a * b)
    then unless_zero-fits w b (div_fits w b h.left)
    then unless_zero-fits w b (word_fits w (int_div (signed w a) (signed w b)))
    then unless_zero-fits w b (rem_fits w b h.left)
    then unless_zero-fits w b (word_fits w (int_rem (signed w a) (signed w b)))
    then and_fits w a b
    then or_fits w a b
    then xor_fits w a b
    then mod_fits w (a * 2 ^ min b w)
    then div_fits w (2 ^ min b w) h.left
    then word_fits w (shr_z (signed w a) (2 ^ min b w))
    then bit_fits (eqb a b)
    then bit_fits (not (eqb a b))
    then bit_fits (ltb a b)
    then bit_fits (leb a b)
    then bit_fits (int_lt (signed w a) (signed w b))
    then bit_fits (int_le (signed w a) (signed w b))
    then end)
    sub

pub unary_fits : (sub w a : ℕ) → FitsIn w (Subs.unary sub w a)
unary_fits sub w a =
    numbered_all (λ k f. FitsIn w (f w a)) (λ w a. None) (λ k. tt) Subs.unaries
    (mod_fits w (2 ^ w - a) then not_fits w a then end) sub

pub cast_fits : (sub w p a : ℕ) → IsWord w a → Subs.CastFits sub w p → FitsIn p (Subs.cast sub w p a)
cast_fits sub w p a h =
    numbered_all (λ k f. Subs.CastFits k w p → FitsIn p (f w p a)) (λ w p a. None) (λ k c. tt) Subs.casts
    ((λ c. mod_fits p a)
    then (λ c. high_fits w p a c h.fits)
    then (λ c. word_fits p (signed w a))
    then (λ c. lt_of_lt_of_le h.fits (pow_mono c))
    then end)
    sub

-- ------------------------------------------------------------------------------------------------
-- What the functions promise: of a sub that is the number k, what stands under k; of another number, unknown

pub binary_arm : {sub w a b : ℕ} → AreWords w a b → (k : ℕ) → sub ≡ k → {r : Option ℕ} → r ≡ Subs.binary k w a b
    → Computes (Subs.binary_width sub w) (Subs.binary sub w a b) r
binary_arm {sub} {w} {a} {b} h k e q = computes (q ∙ ap (λ (n : ℕ). Subs.binary n w a b) (sym e)) (binary_fits sub w a b h)

pub binary_other : (sub w a b : ℕ) → AreWords w a b → NoneOf (Unit {0}) Subs.binaries sub
    → Computes (Subs.binary_width sub w) (Subs.binary sub w a b) None
binary_other sub w a b h n =
    computes (sym (ap (λ f. f w a b) (numbered_other (Unit {0}) (λ w a b. None) Subs.binaries sub n))) (binary_fits sub w a b h)

pub unary_arm : {sub w a : ℕ} → IsWord w a → (k : ℕ) → sub ≡ k → {r : Option ℕ} → r ≡ Subs.unary k w a → Computes w (Subs.unary sub w a) r
unary_arm {sub} {w} {a} h k e q = computes (q ∙ ap (λ (n : ℕ). Subs.unary n w a) (sym e)) (unary_fits sub w a)

pub unary_other : (sub w a : ℕ) → NoneOf (Unit {0}) Subs.unaries sub → Computes w (Subs.unary sub w a) None
unary_other sub w a n =
    computes (sym (ap (λ f. f w a) (numbered_other (Unit {0}) (λ w a. None) Subs.unaries sub n))) (unary_fits sub w a)

pub cast_arm : {sub w p a : ℕ} → IsWord w a → Subs.CastFits sub w p → (k : ℕ) → sub ≡ k → {r : Option ℕ} → r ≡ Subs.cast k w p a
    → Computes p (Subs.cast sub w p a) r
cast_arm {sub} {w} {p} {a} h f k e q = computes (q ∙ ap (λ (n : ℕ). Subs.cast n w p a) (sym e)) (cast_fits sub w p a h f)

pub cast_other : (sub w p a : ℕ) → IsWord w a → Subs.CastFits sub w p → NoneOf (Unit {0}) Subs.casts sub
    → Computes p (Subs.cast sub w p a) None
cast_other sub w p a h f n =
    computes (sym (ap (λ f. f w p a) (numbered_other (Unit {0}) (λ w p a. None) Subs.casts sub n))) (cast_fits sub w p a h f)
