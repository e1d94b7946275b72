-- What holds of each number of a range. Assumes nothing.
use mathlib.Core.Path.{◌≡◌}
use mathlib.Core.Logic.{◌↔◌}
use Prim.Native.Nat.{ℕ, suc, ◌+◌, ◌≤◌, ◌<◌}
use native.Mathlib.Decide.{dec_lt}
use native.Mathlib.Omega.{arith}

-- P holds of the l numbers from n on
pub record Each (P : ℕ → Type 0) (n l : ℕ) : Type 0 where
  pub at : (i : ℕ) → n ≤ i → i < n + l → P i

module _ {P : ℕ → Type 0} where
  pub each_below : {l : ℕ} → Each P 0 l ↔ ((i : ℕ) → i < l → P i)
  each_below = (λ h i lt. h.at i (omega arith) (omega arith), λ h. record { at = λ i le lt. h i (omega arith) })

  pub each_none : {n : ℕ} → Each P n 0
  each_none = record { at = λ i le lt. absurd (omega arith) }

  pub each_head : {n l : ℕ} → Each P n (suc l) → P n
  each_head {n} h = h.at n (omega arith) (omega arith)

  -- a range within a range
  pub each_part : {n l m k : ℕ} → Each P n l → (n ≤ m) × (m + k ≤ n + l) → Each P m k
  each_part h lies = record { at = λ i le lt. h.at i (omega arith) (omega arith) }

  pub each_cons : {n l : ℕ} → P n → Each P (suc n) l → Each P n (suc l)
  each_cons {n} {l} p h = record { at = λ i le lt. go i lt (dec_lt n i) le }
    where
      go : (i : ℕ) → i < n + suc l → Dec (n < i) → n ≤ i → P i
      go i lt (yes k) le = h.at i k (omega arith)
      go i lt (no k) le = let e : i ≡ n = omega arith in rw e p

  pub each_join : {n k l : ℕ} → Each P n k → Each P (n + k) l → Each P n (k + l)
  each_join {n} {k} {l} h g = record { at = λ i le lt. go i le lt (dec_lt i (n + k)) }
    where
      go : (i : ℕ) → n ≤ i → i < n + (k + l) → Dec (i < n + k) → P i
      go i le lt (yes d) = h.at i le d
      go i le lt (no d) = g.at i (omega arith) (omega arith)
