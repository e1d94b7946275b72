-- Room for a number beside each record of a table. Assumes nothing.
use Rattle.std.specs.Prelude.{◌≡◌, List, ℕ, ◌≤◌, length, replicate}
use denote.Ref.{MutBor}

-- zeros, one for each of n records or more
pub record Zeros (n : ℕ) (zeros : List ℕ) : Type 0 where
  pub long : n ≤ length zeros
  pub are : zeros ≡ replicate (length zeros) 0

-- some work may be called on zeros for n records
abbrev pub TakesZeros : (MutBor (List ℕ) → Type 0) → ℕ → Type 0
TakesZeros pre n = (zeros : MutBor (List ℕ)) → Zeros n zeros.now → pre zeros

-- what some work may give on zeros for n records
pub record OnZeros {R : Type 0} (post : MutBor (List ℕ) → R → MutBor (List ℕ) → Type 0) (n : ℕ) (r : R) : Type 0 where
  pub lent : MutBor (List ℕ)
  pub left : MutBor (List ℕ)
  pub room : Zeros n lent.now
  pub gives : post lent r left
