-- The answer of the three rules, from the answers of each. Assumes nothing.
use Rattle.std.proofs.Common.{◌≡◌, ◌∙◌, List, [], ◌∷◌, ℕ}
use Rattle.std.specs.Prelude.{Err}
use Rattle.base.specs.declared.Refusal.{Refusal}
use Rattle.base.specs.Refusals.{Rule, Answer, Accepted, refusal}
use Rattle.base.proofs.RefusalLaws.{refuses_here, answers_next}
use Rattle.running.specs.Start.{numbers_rule, entry_rule, pair_rule, log_of, start_rules}
use Rattle.starts.specs.Lent.{lent}

module _ (table state log : List ℕ) (count next budget : ℕ) {n : Answer}
    (numbers : n ≡ refusal (numbers_rule (lent table state log count next budget) ∷ [])) where
  pub numbers_refuse : {r : Answer} {e : Refusal} → r ≡ Err e → n ≡ Err e → r ≡ refusal (start_rules (lent table state log count next budget))
  unfolding start_rules
  numbers_refuse on bad =
      on ∙ refuses_here (numbers_rule (lent table state log count next budget) ∷ []) (entry_rule log count ∷ pair_rule table state (log_of (lent table state log count next budget)) ∷ []) numbers bad

  pub numbers_accept : {r : Answer} → n ≡ Accepted → r ≡ refusal (entry_rule log count ∷ pair_rule table state (log_of (lent table state log count next budget)) ∷ []) → r ≡ refusal (start_rules (lent table state log count next budget))
  unfolding start_rules
  numbers_accept given after =
      answers_next (numbers_rule (lent table state log count next budget) ∷ []) (entry_rule log count ∷ pair_rule table state (log_of (lent table state log count next budget)) ∷ []) numbers given after

module _ (a b : Rule) {m r : Answer} (first : m ≡ refusal (a ∷ [])) where
  pub first_refuses : {e : Refusal} → r ≡ Err e → m ≡ Err e → r ≡ refusal (a ∷ b ∷ [])
  first_refuses on bad = on ∙ refuses_here (a ∷ []) (b ∷ []) first bad

  pub first_accepts : m ≡ Accepted → r ≡ refusal (b ∷ []) → r ≡ refusal (a ∷ b ∷ [])
  first_accepts given second = answers_next (a ∷ []) (b ∷ []) first given second

pub ruleset answers = (numbers_refuse, numbers_accept, first_refuses, first_accepts)
