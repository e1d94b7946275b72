-- What an expression gives after its last operand. Assumes nothing.
use Rattle.std.specs.Prelude.{◌≡◌, ℕ, ◌*◌, ◌≤◌, length, Result, Ok, Err}
use Rattle.base.specs.declared.codes.Stop.{Stop}
use Rattle.value.specs.declared.Value.{Value}
use Rattle.table.specs.declared.Node.{Node}
use Rattle.memory.specs.declared.LogBuffer.{LogBuffer}
use Rattle.memory.specs.Log.{entry_size}
use Rattle.memory.specs.Buffer.{held, room_of}
use Rattle.logs.specs.Held.{Holds}
use Rattle.evaluation.specs.Evaluation as E
use Rattle.operation.specs.ByOp.{one_value, two_value, three_value, OneFits, TwoFits, ThreeFits}

-- the last operand's value is one that the op asks for, in the log of the buffer
pub record AfterOne (r : Node) (e : Result Value Stop) : Type 0 where
  pub fits : (x : Value) → e ≡ Ok x → OneFits r x

pub record AfterTwo (l : LogBuffer) (r : Node) (x : Value) (e : Result Value Stop) : Type 0 where
  pub holds : (y : Value) → e ≡ Ok y → Holds l.numbers.now l.count
  pub fits : (y : Value) → e ≡ Ok y → TwoFits (held l) r x y

pub record AfterThree (l : LogBuffer) (r : Node) (x y : Value) (e : Result Value Stop) : Type 0 where
  pub holds : (z : Value) → e ≡ Ok z → Holds l.numbers.now l.count
  pub fits : (z : Value) → e ≡ Ok z → ThreeFits (held l) r x y z
  pub room : (code : Stop) → e ≡ Err code → entry_size * l.count ≤ length l.numbers.now

abbrev pub one_after : Node → Result Value Stop → Result Value Stop
one_after r (Ok x) = Ok (one_value r x)
one_after r (Err code) = Err code

abbrev pub two_after : LogBuffer → Node → Value → Result Value Stop → Result Value Stop
two_after l r x (Ok y) = Ok (two_value (held l) r x y)
two_after l r x (Err code) = Err code

abbrev pub three_after : LogBuffer → Node → Value → Value → Result Value Stop → E.Evaluated
three_after l r x y (Ok z) = three_value (room_of l) (held l) r x y z
three_after l r x y (Err code) = E.stopped code (held l)
