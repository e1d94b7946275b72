-- Minus as the code computes it, modulo 2 ^ 64 and then 2 ^ w. Assumes nothing.
use Rattle.std.proofs.Common.{◌≡◌, ℕ, suc, ◌+◌, ◌-◌, ◌*◌, ◌%◌, ◌^◌, ◌<◌, ◌≤◌, sym, ap, ◌∙◌, le_of_lt, mod-eq_of_lt, arith, pow_pos, pow-add, suc-mul}
use Rattle.std.proofs.Math.Nat.{add-mod_right, mod-add-mod, mul-add-mod_self_right}
use Rattle.word.specs.Words as Words
use Rattle.word.specs.Words.{AreWords}
use Rattle.word.proofs.WidthLaws.{cut_twice}

-- modulo m: what b added to wraps back to a is a - b
difference : (m r a b : ℕ) → (r + b) % m ≡ a → b ≤ m → r % m ≡ (a + (m - b)) % m
difference m r a b e h =
    let s : r + b + (m - b) ≡ r + m = omega arith in
    sym (add-mod_right r m) ∙ ap (λ (n : ℕ). n % m) (sym s) ∙ sym (mod-add-mod (r + b) m (m - b)) ∙ ap (λ (n : ℕ). (n + (m - b)) % m) e

-- whatever b added to wraps back to a, modulo 2 ^ w
pub minus_cut : (w r a b : ℕ) → w ≤ 64 → (r + b) % 2 ^ 64 ≡ a → a < 2 ^ w → b < 2 ^ w → r % 2 ^ w ≡ Words.minus w a b
minus_cut w r a b h e ha hb =
    difference (2 ^ w) r a b (sym (cut_twice w (r + b) h) ∙ ap (λ (n : ℕ). n % 2 ^ w) e ∙ mod-eq_of_lt ha) (le_of_lt hb)

-- the difference modulo 2 ^ 64 and then 2 ^ w is that modulo 2 ^ w
pub minus_words : (w a b : ℕ) → AreWords w a b → (a + (2 ^ 64 - b)) % 2 ^ 64 % 2 ^ w ≡ Words.minus w a b
minus_words w a b h =
    let e : 64 ≡ (64 - w) + w = omega (arith, h.width.most) in
    let p : 2 ^ 64 ≡ 2 ^ (64 - w) * 2 ^ w = ap (λ (n : ℕ). 2 ^ n) e ∙ pow-add 2 (64 - w) w in
    let k : 2 ^ (64 - w) ≡ suc (2 ^ (64 - w) - 1) = omega (arith, pow_pos (64 - w)) in
    let q : 2 ^ (64 - w) * 2 ^ w ≡ (2 ^ (64 - w) - 1) * 2 ^ w + 2 ^ w = ap (λ (n : ℕ). n * 2 ^ w) k ∙ suc-mul (2 ^ (64 - w) - 1) (2 ^ w) in
    let s : a + (2 ^ 64 - b) ≡ (2 ^ (64 - w) - 1) * 2 ^ w + (a + (2 ^ w - b)) = omega (arith, p, q, h.right) in
    cut_twice w (a + (2 ^ 64 - b)) h.width.most
    ∙ ap (λ (n : ℕ). n % 2 ^ w) s
    ∙ mul-add-mod_self_right (2 ^ (64 - w) - 1) (2 ^ w) (a + (2 ^ w - b))
