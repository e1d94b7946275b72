-- Little-endian numbers of two, three and four bytes, byte by byte. Assumes nothing.
use mathlib.Core.Path.{◌≡◌, ap}
use mathlib.Core.List.{List}
use Prim.Native.Nat.{ℕ, ◌+◌, ◌*◌}
use native.Mathlib.Omega.{arith}
use lib.ListN.{get_or}
use Rattle.table.specs.Bytes.{number}

-- a byte some places on
on : (s : List ℕ) (at k n : ℕ) → at + k + 1 ≡ at + n → get_or s (at + k + 1) 0 ≡ get_or s (at + n) 0
on s at k n e = ap (λ (i : ℕ). get_or s i 0) e

module _ (s : List ℕ) (at : ℕ) where
  pub number_2 : number 2 s at ≡ get_or s at 0 + 256 * get_or s (at + 1) 0
  unfolding number
  number_2 = omega arith

  pub number_3 : number 3 s at ≡ get_or s at 0 + 256 * get_or s (at + 1) 0 + 65536 * get_or s (at + 2) 0
  unfolding number
  number_3 = omega (arith, on s at 1 2 (omega arith))

  pub number_4 : number 4 s at ≡ get_or s at 0 + 256 * get_or s (at + 1) 0 + 65536 * get_or s (at + 2) 0 + 16777216 * get_or s (at + 3) 0
  unfolding number
  number_4 = omega (arith, on s at 1 2 (omega arith), ap (λ (i : ℕ). get_or s i 0) (third at))
    where
      third : (at : ℕ) → at + 1 + 1 + 1 ≡ at + 3
      third at = omega arith
