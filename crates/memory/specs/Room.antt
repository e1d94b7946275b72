-- A log that keeps its rules, within its room: what evaluation and a run may take for granted. Assumes nothing.
use Rattle.std.specs.Prelude.{[], ◌∷◌, ℕ, ◌^◌, ◌≤◌, ◌<◌, length}
use Rattle.word.specs.Words.{Width}
use Rattle.memory.specs.declared.Entry.{Entry}
use Rattle.memory.specs.Log.{Log, unknown_byte}
use Rattle.memory.specs.Typed.{Link}

-- what a new entry keeps; "A previous entry has the same address width, and the address is below 2^width."
pub record Follows (e : Entry) (L : Log) : Type 0 where
  pub link : Link L e.width e.previous
  pub width : Width e.width
  pub address : e.address < 2 ^ e.width
  pub byte : e.byte ≤ unknown_byte

-- every entry keeps the log's rules
pub data LogOk : Log → Type 0 where
  empty : LogOk []
  newer : {e : Entry} {L : Log} → Follows e L → LogOk L → LogOk (e ∷ L)

-- a log that keeps its rules, within its room
pub record InRoom (room : ℕ) (L : Log) : Type 0 where
  pub ok : LogOk L
  pub most : length L ≤ room
