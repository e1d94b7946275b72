-- The fewest digits that hold a number are its decimal ones. Assumes nothing.
use Rattle.std.proofs.Common.{◌≡◌, refl, sym, ap, ap₂, subst, ◌∙◌, Bool, true, false, cond, List, [], ◌∷◌, ◌++◌, ℕ, zero, suc, ◌+◌, ◌*◌, ◌-◌, ◌/◌, ◌%◌, ◌^◌, ◌≤◌, ◌<◌, pow-suc, mod-eq_of_lt, div-lt_iff_lt-mul, le-div_iff_mul-le, zero-lt-suc, arith, leb, pow-add, lt-ltb, le-ltb, leb-true, leb-false, if◌then◌else◌}
use Rattle.io.specs.Digits.{last_digits, hex_digit_ascii, IsDigitCount}
use Rattle.report.specs.Lines.{digits_of, decimal}

-- a digit's glyph
glyph_is : (d : ℕ) → d < 10 → hex_digit_ascii d ≡ 48 + d
glyph_is d h = ap (λ (t : Bool). cond t (48 + d) (87 + d)) (lt-ltb d 10 h)

-- the last digit
last_is : (n : ℕ) → hex_digit_ascii (n % 10) ≡ 48 + n % 10
last_is n = glyph_is (n % 10) (omega arith)

one_digit : (n : ℕ) → n < 10 → last_digits 10 1 n ≡ (48 + n) ∷ []
one_digit n h = ap (λ (d : ℕ). d ∷ []) (last_is n ∙ ap (λ (d : ℕ). 48 + d) (mod-eq_of_lt h))

pow_pos_ten : (k : ℕ) → 1 ≤ 10 ^ k
pow_pos_ten zero = omega arith
pow_pos_ten (suc k) =
    let more = pow-suc 10 k in
    let one = pow_pos_ten k in
    omega arith

-- a number of at most suc f digits
pub fewest_digits : (f k n : ℕ) → k ≤ suc f → IsDigitCount 10 1 n k → last_digits 10 k n ≡ digits_of f n
unfolding digits_of
fewest_digits f zero n h (least, below, reached) = absurd (omega arith)
fewest_digits zero (suc zero) n h (least, below, reached) = one_digit n (omega arith)
fewest_digits (suc f) (suc zero) n h (least, below, reached) =
    one_digit n (omega arith) ∙ sym (ap (λ (t : Bool). if t then (48 + n) ∷ [] else digits_of f (n / 10) ++ ((48 + n % 10) ∷ [])) (lt-ltb n 10 (omega arith)))
fewest_digits zero (suc (suc k)) n h (least, below, reached) = absurd (omega arith)
fewest_digits (suc f) (suc (suc k)) n h (least, below, reached) =
    let more = pow-suc 10 (suc k) in
    let same = pow-suc 10 k in
    let one = pow_pos_ten k in
    let many : 10 ^ suc k ≤ n = subst (λ (j : ℕ). 10 ^ j ≤ n) (omega arith) (reached (omega arith)) in
    let fewer : n / 10 < 10 ^ suc k = (div-lt_iff_lt-mul (zero-lt-suc 9)).1 (subst (λ (x : ℕ). n < x) more below) in
    let reaches : 10 ^ k ≤ n / 10 = (le-div_iff_mul-le (zero-lt-suc 9)).1 (subst (λ (x : ℕ). x ≤ n) same many) in
    let again : IsDigitCount 10 1 (n / 10) (suc k) = (omega arith, fewer, λ l. subst (λ (j : ℕ). 10 ^ j ≤ n / 10) (omega arith) reaches) in
    ap₂ (λ (x : List ℕ) (d : ℕ). x ++ (d ∷ [])) (fewest_digits f (suc k) (n / 10) (omega arith) again) (last_is n)
    ∙ sym (ap (λ (t : Bool). if t then (48 + n) ∷ [] else digits_of f (n / 10) ++ ((48 + n % 10) ∷ [])) (le-ltb n 10 (omega arith)))

-- of 64 bits: at most 20
pub few_digits : (k n : ℕ) → n < 2 ^ 64 → IsDigitCount 10 1 n k → k ≤ 20
few_digits k n h (least, below, reached) = go (leb k 20) refl where
  go : (t : Bool) → leb k 20 ≡ t → k ≤ 20
  go true e = leb-true k 20 e
  go false e =
      let over = leb-false k 20 e in
      let more : 10 ^ (k - 1) ≡ 10 ^ 20 * 10 ^ (k - 21) = ap (λ (j : ℕ). 10 ^ j) (omega arith) ∙ pow-add 10 20 (k - 21) in
      let one = pow_pos_ten (k - 21) in
      let most = reached (omega arith) in
      absurd (omega arith)

-- a number of 64 bits
pub decimal_is : (k n : ℕ) → k ≤ 20 → IsDigitCount 10 1 n k → last_digits 10 k n ≡ decimal n
unfolding decimal
decimal_is k n h = fewest_digits 19 k n h
