-- A refusal's number is 1 to 18 and a stop's 32 to 36, and no two codes have the same. Assumes nothing.
use mathlib.Core.Path.{◌≡◌, refl, sym, ap, ◌∙◌}
use mathlib.Core.Bool.{true}
use lib.Dec.{leb}
use Prim.Native.Nat.{◌≤◌}
use borrow.Author.Tests.{leb-true}
use Rattle.std.specs.Prelude.{Option, Some, None}
use Rattle.base.specs.Choice.{within}
use Rattle.base.specs.Codes.{number, stop_number}
use Rattle.base.specs.Named.{code_named, stop_named}
use Rattle.base.specs.declared.codes.Code.{Code}
use Rattle.base.specs.declared.codes.Code.TheVariants as Codes
use Rattle.base.specs.declared.codes.Stop.{Stop}
use Rattle.base.specs.declared.codes.Stop.TheVariants as Stops
use Rattle.base.proofs.BoolLaws.{and_left, and_right}

number_in : (c : Code) → within 1 18 (number c) ≡ true
number_in Codes.TooShort = refl
number_in Codes.Format = refl
number_in Codes.Count = refl
number_in Codes.Length = refl
number_in Codes.Variable = refl
number_in Codes.Expression = refl
number_in Codes.Statement = refl
number_in Codes.Uses = refl
number_in Codes.Depth = refl
number_in Codes.Nesting = refl
number_in Codes.Scope = refl
number_in Codes.ExpressionType = refl
number_in Codes.StatementType = refl
number_in Codes.ExpressionSeal = refl
number_in Codes.StatementSeal = refl
number_in Codes.Start = refl
number_in Codes.Entry = refl
number_in Codes.Pair = refl

stop_in : (c : Stop) → within 32 36 (stop_number c) ≡ true
stop_in Stops.GuardUnknown = refl
stop_in Stops.JumpUnknown = refl
stop_in Stops.LogFull = refl
stop_in Stops.NoTick = refl
stop_in Stops.TooManyBindings = refl

pub number_within : (c : Code) → (1 ≤ number c) × (number c ≤ 18)
number_within c =
    let h = number_in c in
    (leb-true 1 (number c) (and_left (leb 1 (number c)) (leb (number c) 18) h), leb-true (number c) 18 (and_right (leb 1 (number c)) (leb (number c) 18) h))

pub stop_number_within : (c : Stop) → (32 ≤ stop_number c) × (stop_number c ≤ 36)
stop_number_within c =
    let h = stop_in c in (
      leb-true 32 (stop_number c) (and_left (leb 32 (stop_number c)) (leb (stop_number c) 36) h),
      leb-true (stop_number c) 36 (and_right (leb 32 (stop_number c)) (leb (stop_number c) 36) h),
    )

-- a code's number names it
pub number_names : (c : Code) → code_named (number c) ≡ Some c
unfolding code_named
number_names Codes.TooShort = refl
number_names Codes.Format = refl
number_names Codes.Count = refl
number_names Codes.Length = refl
number_names Codes.Variable = refl
number_names Codes.Expression = refl
number_names Codes.Statement = refl
number_names Codes.Uses = refl
number_names Codes.Depth = refl
number_names Codes.Nesting = refl
number_names Codes.Scope = refl
number_names Codes.ExpressionType = refl
number_names Codes.StatementType = refl
number_names Codes.ExpressionSeal = refl
number_names Codes.StatementSeal = refl
number_names Codes.Start = refl
number_names Codes.Entry = refl
number_names Codes.Pair = refl

pub stop_number_names : (c : Stop) → stop_named (stop_number c) ≡ Some c
unfolding stop_named
stop_number_names Stops.GuardUnknown = refl
stop_number_names Stops.JumpUnknown = refl
stop_number_names Stops.LogFull = refl
stop_number_names Stops.NoTick = refl
stop_number_names Stops.TooManyBindings = refl

-- what an option has, or another where it has nothing
some_or : {X : Type 0} → X → Option X → X
some_or other None = other
some_or other (Some x) = x

pub number_once : {c d : Code} → number c ≡ number d → c ≡ d
unfolding some_or
number_once {c} {d} e = ap (some_or c) (sym (number_names c) ∙ ap code_named e ∙ number_names d)

pub stop_number_once : {c d : Stop} → stop_number c ≡ stop_number d → c ≡ d
unfolding some_or
stop_number_once {c} {d} e = ap (some_or c) (sym (stop_number_names c) ∙ ap stop_named e ∙ stop_number_names d)
