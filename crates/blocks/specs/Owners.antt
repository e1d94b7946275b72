-- Which statement a statement stands in the bodies of. Assumes nothing.
use Rattle.std.specs.Prelude.{◌≡◌, List, ℕ, zero, suc, ◌<◌, ltb, get_or}
use Rattle.std.specs.Prelude.{if◌then◌else◌}
use Rattle.table.specs.Records.{second_end}

-- one more than the highest of the statements below j in one of whose bodies statement i stands, 0 where there is none
unfoldable pub owner : List ℕ → ℕ → ℕ → ℕ
owner s i zero = 0
owner s i (suc j) = if ltb i (second_end s j) then suc j else owner s i j

-- the first n of a list are what a function gives
pub record FirstAre (f : ℕ → ℕ) (n : ℕ) (list : List ℕ) : Type 0 where
  pub at : (k : ℕ) → k < n → get_or list k 0 ≡ f k

-- a list has the owners of the first n statements
abbrev pub Known : List ℕ → ℕ → List ℕ → Type 0
Known s = FirstAre (λ k. owner s k k)
