-- The numbers of paper 01's codes. Assumes nothing.
use Rattle.std.specs.Prelude.{ℕ}
use Rattle.base.specs.declared.codes.Code.{Code}
use Rattle.base.specs.declared.codes.Code.TheVariants.{TooShort, Format, Count, Length, Variable, Expression, Statement, Uses, Depth, Nesting, Scope, ExpressionType, StatementType, ExpressionSeal, StatementSeal, Start, Entry, Pair}
use Rattle.base.specs.declared.codes.Stop.{Stop}
use Rattle.base.specs.declared.codes.Stop.TheVariants.{GuardUnknown, JumpUnknown, LogFull, NoTick, TooManyBindings}

-- of a refusal
abbrev pub number : Code → ℕ
number TooShort = 1
number Format = 2
number Count = 3
number Length = 4
number Variable = 5
number Expression = 6
number Statement = 7
number Uses = 8
number Depth = 9
number Nesting = 10
number Scope = 11
number ExpressionType = 12
number StatementType = 13
number ExpressionSeal = 14
number StatementSeal = 15
number Start = 16
number Entry = 17
number Pair = 18

-- of a stop
abbrev pub stop_number : Stop → ℕ
stop_number GuardUnknown = 32
stop_number JumpUnknown = 33
stop_number LogFull = 34
stop_number NoTick = 35
stop_number TooManyBindings = 36
