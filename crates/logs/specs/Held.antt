-- What code over a log's buffer may take for granted. Assumes nothing.
use Rattle.std.specs.Prelude.{◌≡◌, ℕ, ◌*◌, ◌≤◌, true, List, length}
use Rattle.value.specs.declared.ValueType.TheVariants.{Imm, Mem}
use Rattle.value.specs.declared.Value.{Value}
use Rattle.memory.specs.Log.{Log, entry_size, entries, newest_ok}
use Rattle.memory.specs.Typed.{Has}

-- a buffer with a log of so many entries, as refusals 16 and 17 leave it: the count is within the room, and every entry within the
-- count keeps the log's rules
pub record Holds (l : List ℕ) (count : ℕ) : Type 0 where
  pub room : entry_size * count ≤ length l
  pub rules : (n : ℕ) → n ≤ count → newest_ok (entries l n) ≡ true

-- T_LOAD, T_STORE: a memory, and an address of its width
pub record Addressed (L : Log) (m a : Value) : Type 0 where
  pub width : ℕ
  pub memory : Has L m (Mem width)
  pub address : Has L a (Imm width)
