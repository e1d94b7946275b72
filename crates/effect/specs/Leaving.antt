-- What the functions that run statements hand each other: where a run stands, and what it leaves. Assumes nothing.
use Rattle.std.specs.Prelude.{◌≡◌, Bool, true, false, List, [], ℕ, suc, Result, Ok, Err, ⊤}
use Rattle.base.specs.declared.codes.Stop.{Stop}
use Rattle.base.specs.declared.codes.Stop.TheVariants as Stops
use Rattle.value.specs.declared.Value.{Value}
use Rattle.table.specs.Bytes.{header}
use Rattle.table.specs.Decode.{context, expr}
use Rattle.table.specs.Syntax.{Block}
use Rattle.table.specs.Records.{Framed, RecordsHold}
use Rattle.table.specs.Asked.{IsBlock}
use Rattle.typing.specs.Typing.{TypingHolds}
use Rattle.memory.specs.declared.LogBuffer.{LogBuffer}
use Rattle.memory.specs.Log.{Log}
use Rattle.memory.specs.Buffer.{held, room_of, Becomes}
use Rattle.evaluation.specs.Evaluation as E
use Rattle.operation.specs.Outcome.{answer, log_in}
use Rattle.running.specs.declared.Ending.{Ending}
use Rattle.running.specs.declared.Ending.TheVariants.{Done, Stopped}
use Rattle.running.specs.Run.{Left, run, holds, fails, unsure, guard}
use Rattle.running.specs.Standing.{Stands}
use Rattle.effect.specs.declared.Halt.{Halt}
use Rattle.effect.specs.declared.Machine.{Machine}

-- a table s that is accepted, and a machine with a state, a log and a next address that a run may go on from
pub record Running (s : List ℕ) (m : Machine) : Type 0 where
  pub framed : Framed s (header s)
  pub records : RecordsHold s
  pub typing : TypingHolds s
  pub stands : Stands s (room_of m.log.now) m.state.now (held m.log.now) m.next

-- statement i stands in a block, with so many statements behind it there
pub record Standing (s : List ℕ) (i : ℕ) : Type 0 where
  pub behind : ℕ
  pub block : IsBlock s i (suc behind)

-- ------------------------------------------------------------------------------------------------
-- Runs

-- the run of a block with t ticks, from the state, the log and the next address that a machine has
abbrev pub runs : (s : List ℕ) (m : Machine) (t : ℕ) → Block → Left
runs s m t b = run (context s) (room_of m.log.now) t b m.state.now (held m.log.now) m.next

-- how a run ended, by a result
abbrev pub ended : Result ⊤ Halt → Ending
ended (Ok u) = Done
ended (Err h) = Stopped h.code h.statement

-- what a run that leaves x promises of its result r and of what it makes of machine m
pub record RunLeaves (m : Machine) (x : Left) (r : Result ⊤ Halt) (q : Machine) : Type 0 where
  pub is : ended r ≡ x.ending
  pub ticks : q.ticks ≡ x.remaining
  pub next : q.next ≡ x.next
  pub state : q.state.now ≡ x.state
  pub log : Becomes m.log.now x.log q.log.now
  pub same : q.state.ghost_name ≡ m.state.ghost_name  -- one and the same memory, both
  pub same_log : q.log.ghost_name ≡ m.log.ghost_name

-- ------------------------------------------------------------------------------------------------
-- The expression of a statement

-- the evaluation of expression e, with no binding in force
abbrev pub evaluated : (s σ : List ℕ) → LogBuffer → ℕ → E.Evaluated
evaluated s σ l e = E.eval (context s) (room_of l) σ (expr s e) [] (held l)

-- machine q is machine m with the log L
pub record LogAlone (m : Machine) (L : Log) (q : Machine) : Type 0 where
  pub log : Becomes m.log.now L q.log.now
  pub state : q.state.now ≡ m.state.now
  pub ticks : q.ticks ≡ m.ticks
  pub next : q.next ≡ m.next
  pub same : q.state.ghost_name ≡ m.state.ghost_name
  pub same_log : q.log.ghost_name ≡ m.log.ghost_name

-- a stop at statement i: "At a stop the innermost statement is named"
abbrev pub at_statement : {T : Type 0} → ℕ → Result T Stop → Result T Halt
at_statement i (Ok v) = Ok v
at_statement i (Err code) = Err (record { code = code; statement = i })

-- what an evaluation x for statement i promises of its result r and of what it makes of machine m
pub record ValueLeaves (m : Machine) (x : E.Evaluated) (i : ℕ) (r : Result Value Halt) (q : Machine) : Type 0 where
  pub is : r ≡ at_statement i (answer x)
  pub rest : LogAlone m (log_in x) q

-- ------------------------------------------------------------------------------------------------
-- Guards

-- a guard by its value; 32: "guard unknown"
unfoldable pub test_of : Value → Result Bool Stop
unfolding guard
test_of v = elim (guard v) [ holds ↦ Ok true | fails ↦ Ok false | unsure ↦ Err Stops.GuardUnknown ]

-- by its evaluation
unfoldable pub tested : E.Evaluated → Result Bool Stop
unfolding test_of
tested (E.value v L) = test_of v
tested (E.stopped code L) = Err code

-- what a test by an evaluation x promises of its result r and of what it makes of buffer l
pub record TestLeaves (l : LogBuffer) (x : E.Evaluated) (r : Result Bool Stop) (m : LogBuffer) : Type 0 where
  pub is : r ≡ tested x
  pub log : Becomes l (log_in x) m
