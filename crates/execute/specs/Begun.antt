-- A statement that is begun, and its guard. Assumes nothing.
use Rattle.std.specs.Prelude.{◌≡◌, Bool, ℕ, suc, Result}
use Rattle.evaluation.specs.Evaluation as E
use Rattle.operation.specs.Outcome.{log_in}
use Rattle.effect.specs.declared.Halt.{Halt}
use Rattle.effect.specs.declared.Machine.{Machine}
use Rattle.effect.specs.Leaving.{LogAlone, at_statement, tested}

-- machine q is machine m with a tick less
pub record Begins (m q : Machine) : Type 0 where
  pub ticks : m.ticks ≡ suc q.ticks
  pub state : q.state ≡ m.state
  pub log : q.log ≡ m.log
  pub next : q.next ≡ m.next

-- what a guard's evaluation x for statement i promises of the test's result r and of what the test makes of machine m
pub record GuardLeaves (m : Machine) (x : E.Evaluated) (i : ℕ) (r : Result Bool Halt) (q : Machine) : Type 0 where
  pub is : r ≡ at_statement i (tested x)
  pub rest : LogAlone m (log_in x) q
