-- A store's answer, and what the buffer holds after it. Assumes nothing.
use Rattle.std.specs.Prelude.{◌≡◌, Result, Ok, Err}
use Rattle.value.specs.declared.Value.{Value}
use Rattle.memory.specs.declared.Full.{Full}
use Rattle.memory.specs.declared.LogBuffer.{LogBuffer}
use Rattle.memory.specs.Log.{Log}
use Rattle.memory.specs.Access as Access
use Rattle.memory.specs.Buffer.{Becomes}

-- the memory, or that the log had no room
abbrev pub answer : Access.Stored → Result Value Full
answer (Access.stored v L) = Ok v
answer (Access.full L) = Err (record {})

abbrev pub log_in : Access.Stored → Log
log_in (Access.stored v L) = L
log_in (Access.full L) = L

-- what a store x promises of its result r and of what it makes of buffer b
pub record Leaves (b : LogBuffer) (x : Access.Stored) (r : Result Value Full) (c : LogBuffer) : Type 0 where
  pub is : r ≡ answer x
  pub log : Becomes b (log_in x) c
