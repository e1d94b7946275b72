-- Which code a number is of: numbers C is told, read back. Assumes nothing.
use Rattle.std.specs.Prelude.{List, [], ◌∷◌, map, ℕ, Option, Some, None}
use Rattle.base.specs.declared.codes.Code.{Code}
use Rattle.base.specs.declared.codes.Code.TheVariants as Codes
use Rattle.base.specs.declared.codes.Stop.{Stop}
use Rattle.base.specs.declared.codes.Stop.TheVariants as Stops
use Rattle.base.specs.Codes.{number, stop_number}
use Rattle.base.specs.Numbered.{numbered}

abbrev pub codes : List Code
codes =
    Codes.TooShort
    ∷ Codes.Format
    ∷ Codes.Count
    ∷ Codes.Length
    ∷ Codes.Variable
    ∷ Codes.Expression
    ∷ Codes.Statement
    ∷ Codes.Uses
    ∷ Codes.Depth
    ∷ Codes.Nesting
    ∷ Codes.Scope
    ∷ Codes.ExpressionType
    ∷ Codes.StatementType
    ∷ Codes.ExpressionSeal
    ∷ Codes.StatementSeal
    ∷ Codes.Start
    ∷ Codes.Entry
    ∷ Codes.Pair
    ∷ []

abbrev pub stops : List Stop
stops = Stops.GuardUnknown ∷ Stops.JumpUnknown ∷ Stops.LogFull ∷ Stops.NoTick ∷ Stops.TooManyBindings ∷ []

-- of a refusal
unfoldable pub code_named : ℕ → Option Code
code_named = numbered None (map (λ (c : Code). (number c, Some c)) codes)

-- of a stop
unfoldable pub stop_named : ℕ → Option Stop
stop_named = numbered None (map (λ (c : Stop). (stop_number c, Some c)) stops)
