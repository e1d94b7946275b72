-- A search for the lowest place of a rule that doesn't hold, by a test that tells whether one does. Assumes nothing.
use Rattle.std.proofs.Common.{sym, ◌∙◌, ap, Bool, true, false, ℕ, ◌<◌, arith}
use Rattle.base.specs.declared.codes.Code.{Code}
use Rattle.base.specs.Refusals.{Accepted, Refused, Searched}
use Rattle.base.proofs.RefusalLaws.{one_rule_accepted, one_rule_refused}

module _ {Tells : ℕ → Bool → Type 0} {code : Code} {places : ℕ} where
  pub fault_at : (i : ℕ) → i < places → ((k : ℕ) → k < i → Tells k true) → Tells i false → Searched Tells code places (Refused code i)
  fault_at i inside below fails rule of_code of_places told =
      let found = one_rule_refused rule i (omega (arith, of_places)) (λ k l. sym (told k true (omega arith) (below k l))) (sym (told i false inside fails)) in
      ap (λ (c : Code). Refused c i) (sym of_code) ∙ sym found

  pub no_fault : ((k : ℕ) → k < places → Tells k true) → Searched Tells code places Accepted
  no_fault all rule of_code of_places told =
      sym (one_rule_accepted rule (λ k l. let inside : k < places = omega (arith, of_places) in sym (told k true inside (all k inside))))
