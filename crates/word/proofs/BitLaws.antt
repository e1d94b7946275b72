-- And, or and xor: the machine's operations are those of the definitions at any width that holds the operands. Assumes nothing.
use Rattle.std.proofs.Common.{◌≡◌, ℕ, zero, suc, ◌+◌, ◌*◌, ◌/◌, ◌%◌, ◌^◌, ◌<◌, min, max, sym, refl, ◌∙◌, subst, ap₂, add-one, arith, shr_lt}
use Rattle.std.proofs.Math.Arith.{lt-one}
use Rattle.std.specs.Int.Bits.{bit_and, bit_or, bit_xor, differ, and_step, or_step, xor_step}
use Rattle.word.specs.Words as Words
use Rattle.word.specs.Words.{bitwise}

half_lt : {n : ℕ} (k : ℕ) → n < 2 ^ suc k → n / 2 < 2 ^ k
half_lt {n} k h = shr_lt k 1 (subst (λ (x : ℕ). n < 2 ^ x) (sym (add-one k)) h)

-- an operation that goes digit by digit as f does is bitwise f
bitwise_is : (op f g : ℕ → ℕ → ℕ) → op 0 0 ≡ 0 → ((a b : ℕ) → op a b ≡ op (a / 2) (b / 2) * 2 + g (a % 2) (b % 2))
    → ((x y : ℕ) → x < 2 → y < 2 → g x y ≡ f x y) → (w a b : ℕ) → a < 2 ^ w → b < 2 ^ w → op a b ≡ bitwise f w a b
bitwise_is op f g z step same zero a b ha hb = ap₂ op (lt-one ha) (lt-one hb) ∙ z
bitwise_is op f g z step same (suc w) a b ha hb =
    step a b
    ∙ ap₂ (λ (x y : ℕ). x * 2 + y) (bitwise_is op f g z step same w (a / 2) (b / 2) (half_lt w ha) (half_lt w hb))
    (same (a % 2) (b % 2) (omega arith) (omega arith))

pub and_is : (w a b : ℕ) → a < 2 ^ w → b < 2 ^ w → Words.and w a b ≡ bit_and a b
and_is w a b h l = sym (bitwise_is bit_and min min refl and_step (λ x y h l. refl) w a b h l)

pub or_is : (w a b : ℕ) → a < 2 ^ w → b < 2 ^ w → Words.or w a b ≡ bit_or a b
or_is w a b h l = sym (bitwise_is bit_or max max refl or_step (λ x y h l. refl) w a b h l)

differ_is : (x y : ℕ) → x < 2 → y < 2 → differ x y ≡ (x + y) % 2
differ_is zero y h l = omega arith
differ_is (suc zero) zero h l = refl
differ_is (suc zero) (suc zero) h l = refl
differ_is (suc zero) (suc (suc y)) h l = absurd (omega arith)
differ_is (suc (suc x)) y h l = absurd (omega arith)

pub xor_is : (w a b : ℕ) → a < 2 ^ w → b < 2 ^ w → Words.xor w a b ≡ bit_xor a b
xor_is w a b h l = sym (bitwise_is bit_xor (λ x y. (x + y) % 2) differ refl xor_step differ_is w a b h l)
