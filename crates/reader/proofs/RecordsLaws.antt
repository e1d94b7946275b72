-- The answer of the three rules of records, from the answers of each. Assumes nothing.
use Rattle.std.proofs.Common.{◌≡◌, ◌∙◌, List, [], ◌∷◌, ℕ}
use Rattle.std.specs.Prelude.{Err}
use Rattle.base.specs.declared.Refusal.{Refusal}
use Rattle.base.specs.Refusals.{Answer, Accepted, refusal}
use Rattle.base.proofs.RefusalLaws.{refuses_here, answers_next, first_refuses, first_accepts}
use Rattle.table.specs.Records.{variable_rule, expression_rule, statement_rule, record_rules}

module _ (s : List ℕ) {x r : Answer} (variables : x ≡ refusal (variable_rule s ∷ [])) where
  pub variables_refuse : {e : Refusal} → r ≡ Err e → x ≡ Err e → r ≡ refusal (record_rules s)
  unfolding record_rules
  variables_refuse on given = on ∙ refuses_here (variable_rule s ∷ []) (expression_rule s ∷ statement_rule s ∷ []) variables given

  pub variables_accept : x ≡ Accepted → r ≡ refusal (expression_rule s ∷ statement_rule s ∷ []) → r ≡ refusal (record_rules s)
  unfolding record_rules
  variables_accept given later = answers_next (variable_rule s ∷ []) (expression_rule s ∷ statement_rule s ∷ []) variables given later

-- and of the two that come after that of variables
pub ruleset answers = (variables_refuse, variables_accept, first_refuses, first_accepts)
