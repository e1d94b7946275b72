-- A start from what is lent. Assumes nothing.
use Rattle.std.specs.Prelude.{List, ℕ}
use Rattle.running.specs.Start.{Start}

abbrev pub lent : List ℕ → List ℕ → List ℕ → ℕ → ℕ → ℕ → Start
lent table state log count next budget =
    record { table = table; state = state; log = log; count = count; next = next; budget = budget }
