-- The judgement of types: what it finds is by the records, and what its rule asks of statements. Assumes nothing.
use Rattle.std.specs.Prelude.{Option, None}
use mathlib.Core.Path.{◌≡◌, refl, ap}
use mathlib.Core.List.{List}
use Prim.Native.Nat.{ℕ}
use Rattle.value.specs.declared.ValueType.{ValueType}
use Rattle.table.specs.Bytes.{header, expression, statement}
use Rattle.table.specs.Fields.{operands, expression_rows, expression_row}
use Rattle.table.specs.Decode.{Context, context, expr}
use Rattle.table.specs.Syntax.{Expr}
use Rattle.table.proofs.View as R
use Rattle.table.proofs.View.{View}
use Rattle.table.proofs.ExpressionLaws.{expr_view}
use Rattle.forest.specs.Forest.{operands_of}
use Rattle.typing.specs.Infer.{infer}
use Rattle.typing.specs.ByOp.{leaves, ones, twos, threes, leaf_type, one_type, two_type, three_type}
use Rattle.judging.specs.Judging.{Made, by, Course, Asks}
use Rattle.value.specs.declared.ValueType.TheVariants.{Imm}
use Rattle.base.proofs.NumberedLaws.{numbered_other}
use Rattle.typing.specs.Infer.{is_type}
use Rattle.typing.specs.Verdict.{statement_types, statement_typed}

-- what a record makes of the types of its operands
abbrev pub type_made : Context → Made (Option ValueType)
type_made Γ = record { leaf = leaf_type Γ; one = one_type; two = two_type Γ; three = three_type; more = None }

abbrev pub type_at : List ℕ → ℕ → Option ValueType
type_at s k = infer (context s) (expr s k)

viewed : (s : List ℕ) (i : ℕ) {e : Expr} → View s i e → infer (context s) e ≡ by (type_made (context s)) (type_at s) (expression s i) (operands_of s i)
unfolding infer operands_of operands expression_row expression_rows leaf_type leaves one_type ones two_type twos three_type threes
viewed s i (R.v_var op _) = rw op refl
viewed s i (R.v_word op _) = rw op refl
viewed s i (R.v_load op _ _ _) = rw op refl
viewed s i (R.v_store op _ _ _ _) = rw op refl
viewed s i (R.v_binary op _ _ _ _) = rw op refl
viewed s i (R.v_unary op _ _ _) = rw op refl
viewed s i (R.v_cast op _ _ _ _) = rw op refl
viewed s i (R.v_let op _ _ _ _) = rw op refl
viewed s i (R.v_unknown op _) = rw op refl
viewed s i (R.v_ite op _ _ _) = rw op refl
viewed s i (R.v_extract op _ _ _) = rw op refl
viewed s i (R.v_concat op _ _) = rw op refl

pub types : (s : List ℕ) → Course s (type_made (context s)) (type_at s)
types s = record { each = λ hold i inside. viewed s i (expr_view hold i inside) }

-- what the op of a statement asks of the types of the expressions that its record names
pub asks_types : (s : List ℕ) → Asks s (statement_typed s) is_type (type_at s) (λ x. (context s).type x) (Imm (header s).width) (Imm 1)
unfolding statement_typed statement_types
asks_types s = record {
  moves = λ i op. rw op refl;
  jumps = λ i op. rw op refl;
  loops = λ i op. rw op refl;
  branches = λ i op. rw op refl;
  others = λ i m j l b.
      ap (λ f. f (context s) (header s).width (statement s i) (type_at s))
      (numbered_other (Unit {0}) _ statement_types (statement s i).op ((((tt, m), j), l), b));
}
