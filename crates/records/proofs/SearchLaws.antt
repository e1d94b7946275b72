-- What a search over the records of a table answers. Assumes nothing.
use Rattle.std.proofs.Common.{◌≡◌, refl, sym, ap, Bool, List, [], ◌∷◌, ℕ, ◌<◌}
use Rattle.base.specs.declared.codes.Code.TheVariants as Codes
use Rattle.base.specs.Refusals.{Answer, Searched, refusal}
use Rattle.table.specs.declared.Header.{Header}
use Rattle.table.specs.Bytes.{variable, expression}
use Rattle.table.specs.Fields.{expression_row}
use Rattle.table.specs.Records.{Framed, variable_ok, variable_rule, record_ok, expression_rule}

module _ {s : List ℕ} {h : Header} {Tells : ℕ → Bool → Type 0} {answer : Answer} (framed : Framed s h) where
  pub variables_searched :
      Searched Tells Codes.Variable h.variables answer → ((i : ℕ) (b : Bool) → i < h.variables → Tells i b → b ≡ variable_ok (variable s i))
      → answer ≡ refusal (variable_rule s ∷ [])
  unfolding variable_rule
  variables_searched found told = found (variable_rule s) refl (sym (ap (λ (k : Header). k.variables) framed.is)) told

  pub expressions_searched :
      Searched Tells Codes.Expression h.expressions answer
      → ((i : ℕ) (b : Bool) → i < h.expressions → Tells i b → b ≡ record_ok s i (expression_row (expression s i)) (expression s i))
      → answer ≡ refusal (expression_rule s ∷ [])
  unfolding expression_rule
  expressions_searched found told = found (expression_rule s) refl (sym (ap (λ (k : Header). k.expressions) framed.is)) told
