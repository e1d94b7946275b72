-- The judgement of labels: what it finds is by the records, and what its rule asks of statements. Assumes nothing.
use Rattle.std.specs.Prelude.{Option, None}
use mathlib.Core.Path.{◌≡◌, refl, ap}
use mathlib.Core.Bool.{Bool, false}
use mathlib.Core.List.{List}
use Prim.Native.Nat.{ℕ}
use Rattle.table.specs.Bytes.{expression, statement}
use Rattle.table.specs.Fields.{operands, expression_rows, expression_row}
use Rattle.table.specs.Decode.{Context, context, expr}
use Rattle.table.specs.Syntax.{Expr}
use Rattle.table.proofs.View as R
use Rattle.table.proofs.View.{View}
use Rattle.table.proofs.ExpressionLaws.{expr_view}
use Rattle.forest.specs.Forest.{operands_of}
use Rattle.sealing.specs.Labels.{label_of}
use Rattle.sealing.specs.ByOp.{leaves, twos, threes, leaf_label, two_label, three_label}
use Rattle.base.proofs.NumberedLaws.{numbered_other}
use Rattle.sealing.specs.Labels.{may_go}
use Rattle.sealing.specs.Verdict.{statement_seals, statement_clean}
use Rattle.judging.specs.Judging.{Made, by, Course, Asks}

-- what a record makes of the labels of its operands
abbrev pub label_made : Context → Made (Option Bool)
label_made Γ = record { leaf = leaf_label Γ; one = λ r l. l; two = two_label Γ; three = three_label; more = None }

abbrev pub label_at : List ℕ → ℕ → Option Bool
label_at s k = label_of (context s) (expr s k)

viewed : (s : List ℕ) (i : ℕ) {e : Expr} → View s i e → label_of (context s) e ≡ by (label_made (context s)) (label_at s) (expression s i) (operands_of s i)
unfolding label_of operands_of operands expression_row expression_rows leaf_label leaves two_label twos three_label threes
viewed s i (R.v_var op _) = rw op refl
viewed s i (R.v_word op _) = rw op refl
viewed s i (R.v_load op _ _ _) = rw op refl
viewed s i (R.v_store op _ _ _ _) = rw op refl
viewed s i (R.v_binary op _ _ _ _) = rw op refl
viewed s i (R.v_unary op _ _ _) = rw op refl
viewed s i (R.v_cast op _ _ _ _) = rw op refl
viewed s i (R.v_let op _ _ _ _) = rw op refl
viewed s i (R.v_unknown op _) = rw op refl
viewed s i (R.v_ite op _ _ _) = rw op refl
viewed s i (R.v_extract op _ _ _) = rw op refl
viewed s i (R.v_concat op _ _) = rw op refl

pub labels : (s : List ℕ) → Course s (label_made (context s)) (label_at s)
labels s = record { each = λ hold i inside. viewed s i (expr_view hold i inside) }

-- what the op of a statement asks of the labels of the expressions that its record names
pub asks_labels : (s : List ℕ) → Asks s (statement_clean s) may_go (label_at s) (λ x. (context s).sealed x) false false
unfolding statement_clean statement_seals
asks_labels s = record {
  moves = λ i op. rw op refl;
  jumps = λ i op. rw op refl;
  loops = λ i op. rw op refl;
  branches = λ i op. rw op refl;
  others = λ i m j l b.
      ap (λ f. f (context s) (statement s i) (label_at s))
      (numbered_other (Unit {0}) _ statement_seals (statement s i).op ((((tt, m), j), l), b));
}
