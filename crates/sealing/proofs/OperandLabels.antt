-- The label of an expression is what its op makes of the labels of the expressions that its record names. Assumes nothing.
use mathlib.Core.Path.{◌≡◌}
use mathlib.Core.Bool.{Bool, true}
use mathlib.Core.List.{List}
use Prim.Native.Nat.{ℕ, ◌<◌}
use Rattle.table.specs.Bytes.{header}
use Rattle.table.specs.Fields.{operands, expression_rows, expression_row}
use Rattle.table.specs.Records.{RecordsHold}
use Rattle.table.specs.Decode.{context, expr}
use Rattle.table.specs.Syntax.{Expr}
use Rattle.table.proofs.View as R
use Rattle.table.proofs.View.{View}
use Rattle.table.proofs.ExpressionLaws.{expr_view}
use Rattle.forest.specs.Forest.{operands_of}
use Rattle.forest.specs.Counting.{Stands}
use Rattle.forest.proofs.StandsLaws.{stands_nowhere, in_one, in_two, in_three}
use Rattle.sealing.specs.Sealing as Rules
use Rattle.sealing.specs.Sealing.{Seals}
use Rattle.sealing.specs.Labels.{has_label}
use Rattle.sealing.proofs.SealLaws.{some_label_iff}
use Rattle.sealing.proofs.JudgedLabels.{label_at}

-- ------------------------------------------------------------------------------------------------
-- An expression that has a label has operands that have one

abbrev Labelled : List ℕ → ℕ → Type 0
Labelled s k = (l : Bool) × Seals (context s) (expr s k) l

operand_seals : {s : List ℕ} {i k : ℕ} {e : Expr} {l : Bool} → View s i e → Seals (context s) e l → Stands k (operands_of s i) → Labelled s k
unfolding operands_of operands expression_row expression_rows
operand_seals (R.v_var op _) d h = stands_nowhere (rw op at h)
operand_seals (R.v_word op _) d h = stands_nowhere (rw op at h)
operand_seals {s} (R.v_load op _ _ _) (Rules.S-LOAD m e) h = in_two (Labelled s) (rw op at h) (_, m) (_, e)
operand_seals {s} (R.v_store op _ _ _ _) (Rules.S-STORE m e v) h = in_three (Labelled s) (rw op at h) (_, m) (_, e) (_, v)
operand_seals {s} (R.v_binary op _ _ _ _) (Rules.S-BINARY e f) h = in_two (Labelled s) (rw op at h) (_, e) (_, f)
operand_seals {s} (R.v_unary op _ _ _) (Rules.S-UNARY e) h = in_one (Labelled s) (rw op at h) (_, e)
operand_seals {s} (R.v_cast op _ _ _ _) (Rules.S-CAST e) h = in_one (Labelled s) (rw op at h) (_, e)
operand_seals {s} (R.v_let op _ _ _ _) (Rules.S-LET e _ f) h = in_two (Labelled s) (rw op at h) (_, e) (_, f)
operand_seals (R.v_unknown op _) d h = stands_nowhere (rw op at h)
operand_seals {s} (R.v_ite op _ _ _) (Rules.S-ITE c e f) h = in_three (Labelled s) (rw op at h) (_, c) (_, e) (_, f)
operand_seals {s} (R.v_extract op _ _ _) (Rules.S-EXTRACT e) h = in_one (Labelled s) (rw op at h) (_, e)
operand_seals {s} (R.v_concat op _ _) (Rules.S-CONCAT e f) h = in_two (Labelled s) (rw op at h) (_, e) (_, f)

pub labelled_operand : {s : List ℕ} → RecordsHold s → (i k : ℕ) → i < (header s).expressions → Stands k (operands_of s i)
    → has_label (label_at s i) ≡ true → has_label (label_at s k) ≡ true
labelled_operand hold i k inside stands h =
    some_label_iff.1 (operand_seals (expr_view hold i inside) (some_label_iff.0 h).1 stands)
