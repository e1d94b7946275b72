-- What the functions that look for refusal 10 hand to each other: the ends of bodies around a statement. Assumes nothing.
use Rattle.std.specs.Prelude.{List, ℕ, ◌-◌, ◌≤◌, ◌<◌, get_or}

-- of the first n ends r are left where those that statement i has reached are dropped, from the last on
pub record Left (ends : List ℕ) (n i r : ℕ) : Type 0 where
  pub among : r ≤ n
  pub dropped : (k : ℕ) → r ≤ k → k < n → get_or ends k 0 ≤ i
  pub kept : 0 < r → i < get_or ends (r - 1) 0
