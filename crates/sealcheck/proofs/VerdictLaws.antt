-- Where every statement keeps its seal rule no expression leaks, since each is used. Assumes nothing.
use Rattle.std.specs.Prelude.{Option, Some, None, is_some}
use mathlib.Core.Path.{◌≡◌, refl, sym, ap}
use mathlib.Core.Bool.{Bool, true, false≢true}
use mathlib.Core.List.{List, [], ◌∷◌}
use Prim.Native.Nat.{ℕ, ◌<◌}
use Rattle.base.specs.declared.codes.Code.TheVariants as Codes
use Rattle.base.specs.Refusals.{Answer, Accepted, HoldsBelow, Searched, refusal}
use Rattle.base.proofs.PassedLaws.{both_accept}
use Rattle.table.specs.declared.Header.{Header}
use Rattle.table.specs.declared.read.Frame.{Frame}
use Rattle.table.specs.Bytes.{header}
use Rattle.table.specs.Decode.{context, expr}
use Rattle.table.specs.Records.{RecordsHold}
use Rattle.forest.specs.Forest.{use_rule}
use Rattle.judging.proofs.RootLaws.{found_everywhere}
use Rattle.sealing.specs.Labels.{may_go, has_label, label_of}
use Rattle.sealing.specs.Verdict.{statement_clean, expression_seal_rule, statement_seal_rule, seal_rules}
use Rattle.sealing.proofs.OperandLabels.{labelled_operand}
use Rattle.sealing.proofs.JudgedLabels.{asks_labels}

goes_has : (place : Bool) (o : Option Bool) → may_go place o ≡ true → is_some o ≡ true
unfolding may_go
goes_has place None h = absurd (false≢true h)
goes_has place (Some l) h = refl

pub seals_accepted : {s : List ℕ} → RecordsHold s → refusal (use_rule s ∷ []) ≡ Accepted → HoldsBelow (statement_clean s) (header s).statements
    → Accepted ≡ refusal (seal_rules s)
unfolding seal_rules expression_seal_rule statement_seal_rule has_label
seals_accepted {s} hold once all =
    both_accept (expression_seal_rule s) (statement_seal_rule s) (found_everywhere (asks_labels s) goes_has hold once (labelled_operand hold) all) all

-- what a search for an expression that leaks answers
pub seals_searched :
    (f : Frame) {Tells : ℕ → Bool → Type 0} {answer : Answer} → Searched Tells Codes.ExpressionSeal f.header.expressions answer
    → ((i : ℕ) (b : Bool) → i < f.header.expressions → Tells i b → b ≡ is_some (label_of (context f.bytes.now) (expr f.bytes.now i)))
    → answer ≡ refusal (expression_seal_rule f.bytes.now ∷ [])
unfolding expression_seal_rule has_label
seals_searched f found told = found (expression_seal_rule f.bytes.now) refl (sym (ap (λ (h : Header). h.expressions) f.framed.is)) told
