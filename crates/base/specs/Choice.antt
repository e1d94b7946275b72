-- A test of a number. Assumes nothing.
use Rattle.std.specs.Prelude.{Bool, ◌&&◌, ℕ, leb}

-- a number from least to most
abbrev pub within : ℕ → ℕ → ℕ → Bool
within least most n = leb least n && leb n most
