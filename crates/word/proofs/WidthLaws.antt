-- Masks, the sign bit and the length of a number, over every width. Assumes nothing.
use Rattle.std.proofs.Common.{◌≡◌, ℕ, suc, ◌+◌, ◌-◌, ◌*◌, ◌/◌, ◌%◌, ◌^◌, ◌<◌, ◌≤◌, ltb, leb, sym, ap, ◌∙◌, pow-suc, arith, pow_mono, bit_and}
use Rattle.std.proofs.Math.Pow.{high, ones_split, ones_lt, mod-mod-pow}
use Rattle.std.proofs.lemmas.Nat.{and_mask, leading_length}
use Rattle.std.specs.Int.Count.{count_leading_zeros}
use Rattle.std.proofs.lemmas.Bool.Decides.{nat_tests}

-- the numbers of a width are two halves, below the sign bit and from it on
pub halves : (w : ℕ) → 1 ≤ w → 2 ^ w ≡ 2 ^ (w - 1) * 2
halves w h = let e : suc (w - 1) ≡ w = omega arith in ap (λ (n : ℕ). 2 ^ n) (sym e) ∙ pow-suc 2 (w - 1)

-- 64 ones less the lowest 64 - w are w ones
pub ones_shifted : (w : ℕ) → w ≤ 64 → (2 ^ 64 - 1) / 2 ^ (64 - w) ≡ 2 ^ w - 1
ones_shifted w h =
    let e : 64 ≡ w + (64 - w) = omega arith in
    ap (λ (n : ℕ). (2 ^ n - 1) / 2 ^ (64 - w)) e
    ∙ ap (λ (n : ℕ). n / 2 ^ (64 - w)) (ones_split w (64 - w))
    ∙ high (2 ^ w - 1) (64 - w) (ones_lt (64 - w))

-- the mask keeps the lowest w bits
pub cut_by_mask : (x w : ℕ) → x % 2 ^ w ≡ bit_and x (2 ^ w - 1)
cut_by_mask x w = sym (and_mask x w)

-- a number cut to 64 bits and then to w is the number cut to w
pub cut_twice : (w n : ℕ) → w ≤ 64 → n % 2 ^ 64 % 2 ^ w ≡ n % 2 ^ w
cut_twice w n h = let e : 64 ≡ (64 - w) + w = omega arith in ap (λ (k : ℕ). n % 2 ^ k % 2 ^ w) e ∙ mod-mod-pow n (64 - w) w

-- 64 less the leading zeros is at most w exactly where the number is below 2 ^ w
pub length_le_is_fits : (w x : ℕ) → x < 2 ^ 64 → leb (64 - count_leading_zeros 64 x) w ≡ ltb x (2 ^ w)
length_le_is_fits w x h =
    let s = leading_length 64 x h in
    let p : s.0 ≤ w → 2 ^ s.0 ≤ 2 ^ w = λ l. pow_mono l in
    let q : suc w ≤ s.0 → 2 ^ suc w ≤ 2 ^ s.0 = λ l. pow_mono l in
    grind (arith, nat_tests, p, q, pow-suc 2 w, s.1, s.2, s.3)
