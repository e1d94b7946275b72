-- Where every statement keeps its type rule every expression has a type, since each is used. Assumes nothing.
use Rattle.std.specs.Prelude.{Option, Some, None, is_some}
use mathlib.Core.Path.{◌≡◌, refl, sym, ap}
use mathlib.Core.Bool.{Bool, true, false≢true}
use mathlib.Core.List.{List, [], ◌∷◌}
use Prim.Native.Nat.{ℕ, ◌<◌}
use Rattle.base.specs.declared.codes.Code.TheVariants as Codes
use Rattle.base.specs.Refusals.{Answer, Accepted, HoldsBelow, Searched, refusal}
use Rattle.base.proofs.PassedLaws.{both_accept}
use Rattle.value.specs.declared.ValueType.{ValueType}
use Rattle.table.specs.declared.Header.{Header}
use Rattle.table.specs.declared.read.Frame.{Frame}
use Rattle.table.specs.Bytes.{header}
use Rattle.table.specs.Decode.{context, expr}
use Rattle.table.specs.Records.{RecordsHold}
use Rattle.forest.specs.Forest.{use_rule}
use Rattle.typing.specs.Infer.{is_type, has_type, infer}
use Rattle.typing.specs.Verdict.{statement_typed, expression_type_rule, statement_type_rule, type_rules}
use Rattle.typing.proofs.OperandTypes.{typed_operand}
use Rattle.judging.proofs.RootLaws.{found_everywhere}
use Rattle.typing.proofs.JudgedTypes.{asks_types}

this_has : (t : ValueType) (o : Option ValueType) → is_type t o ≡ true → is_some o ≡ true
unfolding is_type
this_has t None h = absurd (false≢true h)
this_has t (Some u) h = refl

pub types_accepted : {s : List ℕ} → RecordsHold s → refusal (use_rule s ∷ []) ≡ Accepted → HoldsBelow (statement_typed s) (header s).statements
    → Accepted ≡ refusal (type_rules s)
unfolding type_rules expression_type_rule statement_type_rule has_type
types_accepted {s} hold once all =
    both_accept (expression_type_rule s) (statement_type_rule s) (found_everywhere (asks_types s) this_has hold once (typed_operand hold) all) all

-- what a search for an expression without a type answers
pub types_searched :
    (f : Frame) {Tells : ℕ → Bool → Type 0} {answer : Answer} → Searched Tells Codes.ExpressionType f.header.expressions answer
    → ((i : ℕ) (b : Bool) → i < f.header.expressions → Tells i b → b ≡ is_some (infer (context f.bytes.now) (expr f.bytes.now i)))
    → answer ≡ refusal (expression_type_rule f.bytes.now ∷ [])
unfolding expression_type_rule has_type
types_searched f found told = found (expression_type_rule f.bytes.now) refl (sym (ap (λ (h : Header). h.expressions) f.framed.is)) told
