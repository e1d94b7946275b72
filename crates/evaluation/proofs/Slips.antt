-- The easy slip that paper 01 names about evaluation: an example that it would break. Assumes nothing.
use mathlib.Core.Path.{◌≡◌, refl}
use mathlib.Core.Bool.{false}
use mathlib.Core.List.{List, [], ◌∷◌}
use Prim.Native.Nat.{ℕ}
use Rattle.value.specs.declared.ValueType.TheVariants.{Mem}
use Rattle.value.specs.declared.Value.TheVariants.{Memory}
use Rattle.table.specs.Decode.{Context}
use Rattle.table.specs.Syntax as S
use Rattle.table.specs.Syntax.{Expr}
use Rattle.memory.specs.declared.Entry.{Entry}
use Rattle.evaluation.specs.Evaluation.{value, eval}

-- a byte stored at an address of an unknown memory, and the entry that it appends
abbrev stores : ℕ → ℕ → Expr
stores a byte = S.store 8 false (S.unknown (Mem 8)) (S.word 8 a) (S.word 8 byte)

abbrev entry : ℕ → ℕ → Entry
entry a byte = record { previous = 0; width = 8; address = a; byte = byte }

-- "Evaluating only the chosen branch, which appends fewer entries."
pub both_branches_append : (Γ : Context) (σ : List ℕ)
    → eval Γ 2 σ (S.ite (S.word 1 1) (stores 0x10 3) (stores 0x20 4)) [] [] ≡ value (Memory 8 2) (entry 0x10 3 ∷ entry 0x20 4 ∷ [])
unfolding eval
both_branches_append Γ σ = refl
