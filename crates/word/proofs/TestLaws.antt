-- Tests that say the same. Assumes nothing.
use Rattle.std.proofs.Common.{◌≡◌, ℕ, ◌+◌, Bool, true, false, sym, refl, not, ltb, leb, arith}
use Rattle.std.proofs.lemmas.Bool.Decides.{nat_tests}

pub same_test : (s t : Bool) → (s ≡ true → t ≡ true) → (s ≡ false → t ≡ false) → s ≡ t
same_test true t f g = sym (f refl)
same_test false t f g = sym (g refl)

-- two pairs of numbers that are equally far apart are in the same order
pub leb_same : (a b c d : ℕ) → a + d ≡ b + c → leb a b ≡ leb c d
leb_same a b c d e = grind (arith, nat_tests)

pub ltb_is_not_leb : (a b : ℕ) → ltb a b ≡ not (leb b a)
ltb_is_not_leb a b = grind (arith, nat_tests)
