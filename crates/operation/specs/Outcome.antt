-- An evaluation's answer, and what the log's buffer holds after it. Assumes nothing.
use Rattle.std.specs.Prelude.{◌≡◌, ℕ, Result, Ok, Err}
use Rattle.base.specs.declared.codes.Stop.{Stop}
use Rattle.value.specs.declared.Value.{Value}
use Rattle.memory.specs.declared.LogBuffer.{LogBuffer}
use Rattle.memory.specs.Log.{Log}
use Rattle.memory.specs.Buffer.{Becomes}
use Rattle.evaluation.specs.Evaluation as E

-- the value, or the stop
abbrev pub answer : E.Evaluated → Result Value Stop
answer (E.value v L) = Ok v
answer (E.stopped code L) = Err code

abbrev pub log_in : E.Evaluated → Log
log_in (E.value v L) = L
log_in (E.stopped code L) = L

-- what an evaluation x promises of its result r and of what it makes of buffer b
pub record Leaves (b : LogBuffer) (x : E.Evaluated) (r : Result Value Stop) (c : LogBuffer) : Type 0 where
  pub is : r ≡ answer x
  pub log : Becomes b (log_in x) c
