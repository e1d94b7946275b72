-- What contracts ask of a size and of a row of statements. No rule is stated with them. Assumes nothing.
use Rattle.std.specs.Prelude.{◌≡◌, List, ℕ, ◌+◌, ◌%◌, ◌≤◌, ◌<◌}
use Rattle.table.specs.Bytes.{header}
use Rattle.table.specs.Records.{block_end}

-- "Sizes are the multiples of 8 from 8 to 64."
pub record SizeOk (z : ℕ) : Type 0 where
  pub multiple : z % 8 ≡ 0
  pub least : 8 ≤ z
  pub most : z ≤ 64

-- the l statements from n on are what is left of the block around statement n
pub record IsBlock (s : List ℕ) (n l : ℕ) : Type 0 where
  pub inside : n + l ≤ (header s).statements
  pub ends : 0 < l → block_end s n ≡ n + l
