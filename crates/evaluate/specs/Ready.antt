-- What an accepted table and an accepted start give, and every evaluation and move keeps. Assumes nothing.
use Rattle.std.specs.Prelude.{◌≡◌, List, ℕ, ◌*◌, ◌≤◌, length}
use Rattle.table.specs.Bytes.{header}
use Rattle.table.specs.Records.{Framed, RecordsHold}
use Rattle.table.specs.Decode.{context}
use Rattle.typing.specs.Typing.{TypingHolds}
use Rattle.memory.specs.declared.LogBuffer.{LogBuffer}
use Rattle.memory.specs.Log.{entry_size}
use Rattle.memory.specs.Buffer.{held, room_of}
use Rattle.evaluation.specs.Fitting.{Fits}
use Rattle.bindings.specs.declared.Bindings.{Bindings}
use Rattle.bindings.specs.Bound.{Whole, bindings_of}

-- a table s that is accepted, a state σ of two numbers a variable, and a buffer l with a log, in which the state's values and the
-- bindings' have their variables' types
pub record Ready (s σ : List ℕ) (l : LogBuffer) (b : Bindings) : Type 0 where
  pub framed : Framed s (header s)
  pub records : RecordsHold s
  pub typing : TypingHolds s
  pub state : length σ ≡ 2 * (header s).variables
  pub whole : Whole b
  pub room : entry_size * l.count ≤ length l.numbers.now
  pub fits : Fits (context s) (header s).variables (room_of l) σ (bindings_of b) (held l)
