-- No second answer fits: the promise that is an equation, and the contract of each public function. Assumes nothing.
use Rattle.std.proofs.Common.{◌≡◌, refl, ap, sym, ◌∙◌, true, not, Bool, [], ◌∷◌, ℕ, suc, ◌<◌, arith, eqb}
use borrow.Author.Tests.{eq-eqb, ne_eqb}
use Rattle.std.specs.Prelude.{Ok, Err}
use Rattle.base.specs.declared.codes.Code.{Code}
use Rattle.base.specs.declared.codes.Code.TheVariants.{TooShort}
use Rattle.base.specs.Refusals.{Rule, Answer, Refused, Searched, refusal}
use Rattle.base.specs.OneAnswer.{OneAnswer}
use Rattle.base.proofs.RefusalLaws.{one_rule_accepted, one_rule_refused}
use Rattle.base.proofs as base

pub is_unique : {X : Type 0} {v x y : X} → x ≡ v → y ≡ v → x ≡ y
is_unique p q = p ∙ sym q

pub within_unique : OneAnswer (base.within.Reads.Post tt)
within_unique a x y s t = is_unique

pub answers_unique : OneAnswer (base.code_of.Reads.Post tt) × OneAnswer (base.place_of.Reads.Post tt)
answers_unique = search is_unique

-- a rule that gives an answer: none to keep, or one that fails at the place alone
rule_of : Answer → Rule
rule_of (Ok accepted) = record { code = TooShort; places = 0; holds = λ n. true }
rule_of (Err refused) = record { code = refused.code; places = suc refused.place; holds = λ n. not (eqb n refused.place) }

answers : (x : Answer) → x ≡ refusal (rule_of x ∷ [])
unfolding rule_of
answers (Ok accepted) = sym (one_rule_accepted _ (λ k l. refl))
answers (Err refused) =
    let at = refused.place in
    sym (one_rule_refused _ at (omega arith) (λ k l. ap not (ne_eqb k at (λ e. omega arith))) (ap not (eq-eqb at at refl)))

-- every answer is that of some rule, so the promise about all rules leaves one
pub or_refused_unique : OneAnswer (base.or_refused.Reads.Post tt)
or_refused_unique a x y s t p q =
    is_unique
    (p (rule_of a.0) (rule_of (Refused a.1.0 a.1.1.0)) (answers _) (answers _))
    (q (rule_of a.0) (rule_of (Refused a.1.0 a.1.1.0)) (answers _) (answers _))

-- a search by a test that tells of some rule whether it holds leaves one answer
pub first_fault_once :
    {Tells : ℕ → Bool → Type 0} {code : Code} {places : ℕ} (rule : Rule) → rule.code ≡ code → rule.places ≡ places
    → ((k : ℕ) (b : Bool) → k < places → Tells k b → b ≡ rule.holds k) → {x y : Answer} → Searched Tells code places x
    → Searched Tells code places y → x ≡ y
first_fault_once rule c p told s t = is_unique (s rule c p told) (t rule c p told)

pub numbers_unique : OneAnswer (base.codes.Code.number.Reads.Post tt) × OneAnswer (base.codes.Stop.number.Reads.Post tt)
numbers_unique = search is_unique
