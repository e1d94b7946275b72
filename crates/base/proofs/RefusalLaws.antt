-- The answer is accepted exactly where every rule holds, and else the first rule that fails, at its lowest place; so at most one
-- answer fits. Assumes nothing.
use mathlib.Core.Path.{◌≡◌, refl, ap, sym, subst, ◌∙◌}
use mathlib.Core.Bool.{Bool, true, false}
use mathlib.Core.List.{List, [], ◌∷◌, ◌++◌}
use mathlib.Core.Logic.{◌↔◌}
use Rattle.std.specs.Prelude.{Result, Option, Some, None, Ok, Err, IsErr, IsErrAnd}
use Prim.Native.Nat.{ℕ, zero, suc, ◌<◌}
use native.Mathlib.Nat.{not-suc-le-zero}
use native.Mathlib.Decide.{dec_lt}
use native.Mathlib.Omega.{arith}
use Rattle.std.specs.Prelude.{if◌then◌else◌}
use Rattle.base.specs.declared.codes.Code.{Code}
use Rattle.base.specs.declared.Refusal.{Refusal}
use Rattle.base.specs.Refusals.{Rule, HoldsBelow, AllHold, no_rule, one_more, FirstFault, here, further, Answer, Accepted, Refused, answer_of, first_bad, refusal, whole}
use Rattle.base.proofs.BoolLaws.{not_both}

-- ------------------------------------------------------------------------------------------------
-- The lowest place where a test fails

-- what the search over the first n places finds
data Finds (holds : ℕ → Bool) (n : ℕ) : Option ℕ → Type 0 where
  nowhere : HoldsBelow holds n → Finds holds n None
  lowest : {place : ℕ} → place < n → HoldsBelow holds place → holds place ≡ false → Finds holds n (Some place)

holds_at_last : (holds : ℕ → Bool) (n : ℕ) → HoldsBelow holds n → holds n ≡ true → HoldsBelow holds (suc n)
holds_at_last holds n below last i h = go (dec_lt i n)
  where
    go : Dec (i < n) → holds i ≡ true
    go (yes k) = below i k
    go (no k) = let e : i ≡ n = omega arith in rw e last

first_bad-finds : (holds : ℕ → Bool) (n : ℕ) → Finds holds n (first_bad holds n)
unfolding first_bad
first_bad-finds holds zero = nowhere (λ i h. absurd (not-suc-le-zero h))
first_bad-finds holds (suc n) = go (first_bad holds n) (holds n) refl (first_bad-finds holds n)
  where
    go : (o : Option ℕ) (t : Bool) → holds n ≡ t → Finds holds n o
        → Finds holds (suc n) (elim o [ None ↦ if t then None else Some n | Some place ↦ Some place ])
    go None true e (nowhere below) = nowhere (holds_at_last holds n below e)
    go None false e (nowhere below) = lowest {place = n} (omega arith) below e
    go (Some place) t e (lowest inside below fails) = lowest {place = place} (omega arith) below fails

first_bad-none : (holds : ℕ → Bool) (n : ℕ) → HoldsBelow holds n → first_bad holds n ≡ None
first_bad-none holds n all = go (first_bad-finds holds n)
  where
    go : {o : Option ℕ} → Finds holds n o → o ≡ None
    go (nowhere below) = refl
    go (lowest inside below fails) = absurd (not_both (all _ inside) fails)

first_bad-some :
    (holds : ℕ → Bool) (n place : ℕ) → place < n → HoldsBelow holds place → holds place ≡ false → first_bad holds n ≡ Some place
first_bad-some holds n place inside below fails = go (first_bad-finds holds n)
  where
    go : {o : Option ℕ} → Finds holds n o → o ≡ Some place
    go (nowhere all) = absurd (not_both (all place inside) fails)
    go (lowest {place = other} inside' below' fails') = same (dec_lt place other) (dec_lt other place)
      where
        same : Dec (place < other) → Dec (other < place) → Some other ≡ Some place
        same (yes k) d = absurd (not_both (below' place k) fails)
        same (no k) (yes l) = absurd (not_both (below other l) fails')
        same (no k) (no l) = let e : other ≡ place = omega arith in rw e

-- ------------------------------------------------------------------------------------------------
-- The answer

-- an answer that says what is so
data Fits (rules : List Rule) : Answer → Type 0 where
  accepted : AllHold rules → Fits rules Accepted
  refused : {code : Code} {place : ℕ} → FirstFault rules code place → Fits rules (Refused code place)

refusal_fits : (rules : List Rule) → Fits rules (refusal rules)
unfolding refusal
refusal_fits [] = accepted no_rule
refusal_fits (rule ∷ later) = go (first_bad-finds rule.holds rule.places) (refusal_fits later)
  where
    more : {a : Answer} → HoldsBelow rule.holds rule.places → Fits later a → Fits (rule ∷ later) a
    more all (accepted h) = accepted (one_more all h)
    more all (refused h) = refused (further all h)

    go : {o : Option ℕ} → Finds rule.holds rule.places o → Fits later (refusal later)
        → Fits (rule ∷ later) (elim o [ None ↦ refusal later | Some place ↦ Refused rule.code place ])
    go (nowhere all) h = more all h
    go (lowest inside below fails) h = refused (here inside below fails)

all_hold_accepted : {rules : List Rule} → AllHold rules → refusal rules ≡ Accepted
unfolding refusal
all_hold_accepted no_rule = refl
all_hold_accepted (one_more {rule = rule} all h) = rw (first_bad-none rule.holds rule.places all, refusal) (all_hold_accepted h)

first_fault_refused : {rules : List Rule} {code : Code} {place : ℕ} → FirstFault rules code place → refusal rules ≡ Refused code place
unfolding refusal
first_fault_refused (here {rule = rule} {place = place} inside below fails) =
    rw (first_bad-some rule.holds rule.places place inside below fails, refusal)
first_fault_refused (further {rule = rule} all h) = rw (first_bad-none rule.holds rule.places all, refusal) (first_fault_refused h)

pub accepted_iff : (rules : List Rule) → (refusal rules ≡ Accepted) ↔ AllHold rules
accepted_iff rules = ((λ e. go (subst (Fits rules) e (refusal_fits rules))), all_hold_accepted)
  where
    go : Fits rules Accepted → AllHold rules
    go (accepted h) = h

pub refused_iff : (rules : List Rule) (code : Code) (place : ℕ) → (refusal rules ≡ Refused code place) ↔ FirstFault rules code place
refused_iff rules code place = ((λ e. go (subst (Fits rules) e (refusal_fits rules))), first_fault_refused)
  where
    go : {code : Code} {place : ℕ} → Fits rules (Refused code place) → FirstFault rules code place
    go (refused h) = h

-- ------------------------------------------------------------------------------------------------
-- One rule alone, and a rule of the whole before others

pub one_rule_refused :
    (rule : Rule) (place : ℕ) → place < rule.places → HoldsBelow rule.holds place → rule.holds place ≡ false
    → refusal (rule ∷ []) ≡ Refused rule.code place
one_rule_refused rule place inside below fails = first_fault_refused (here inside below fails)

pub one_rule_accepted : (rule : Rule) → HoldsBelow rule.holds rule.places → refusal (rule ∷ []) ≡ Accepted
one_rule_accepted rule all = all_hold_accepted (one_more all no_rule)

pub no_rules : refusal [] ≡ Accepted
no_rules = all_hold_accepted no_rule

pub whole_fails : (code : Code) (test : Bool) (later : List Rule) → test ≡ false → refusal (whole code test ∷ later) ≡ Refused code 0
whole_fails code test later fails = first_fault_refused (here (omega arith) (λ i h. absurd (not-suc-le-zero h)) fails)

-- after a rule that holds the others answer
holds_all : (rule : Rule) (later : List Rule) → HoldsBelow rule.holds rule.places → refusal (rule ∷ later) ≡ refusal later
unfolding refusal
holds_all rule later all = rw (first_bad-none rule.holds rule.places all, refusal)

pub whole_holds : (code : Code) (test : Bool) (later : List Rule) → test ≡ true → refusal (whole code test ∷ later) ≡ refusal later
whole_holds code test later holds = holds_all (whole code test) later (λ i h. holds)

-- ------------------------------------------------------------------------------------------------
-- At most one answer fits

-- what an answer refuses with, or another refusal where it accepts
refusal_or : Refusal → Answer → Refusal
refusal_or other (Ok _) = other
refusal_or other (Err e) = e

pub refused_apart : {code code' : Code} {place place' : ℕ} → Refused code place ≡ Refused code' place' → (code ≡ code') × (place ≡ place')
unfolding refusal_or
refused_apart {code} {code'} {place} e =
    let same = ap (refusal_or (record { code = code; place = place })) e in (ap (λ (r : Refusal). r.code) same, ap (λ (r : Refusal). r.place) same)

pub first_fault_unique :
    {rules : List Rule} {code code' : Code} {place place' : ℕ} → FirstFault rules code place → FirstFault rules code' place' → (code ≡ code') × (place ≡ place')
first_fault_unique f g = refused_apart (sym (first_fault_refused f) ∙ first_fault_refused g)

pub all_hold_no_fault : {rules : List Rule} {code : Code} {place : ℕ} → AllHold rules → FirstFault rules code place → ⊥
all_hold_no_fault a f =
    let p = all_hold_accepted a in
    let q = first_fault_refused f in
    let z : ◌≡◌ {A = ℕ} 0 1 = cc in
    omega arith

-- ------------------------------------------------------------------------------------------------
-- Rules that follow others

pub first_holds : {rule : Rule} {later : List Rule} → AllHold (rule ∷ later) → HoldsBelow rule.holds rule.places
first_holds (one_more all h) = all

pub later_hold : {rule : Rule} {later : List Rule} → AllHold (rule ∷ later) → AllHold later
later_hold (one_more all h) = h

pub all_hold_append : (a b : List Rule) → AllHold (a ++ b) ↔ (AllHold a × AllHold b)
all_hold_append a b = (split a, λ h. join h.0 h.1)
  where
    split : (a : List Rule) → AllHold (a ++ b) → AllHold a × AllHold b
    split [] h = (no_rule, h)
    split (rule ∷ a) (one_more all h) = let (p, q) = split a h in (one_more all p, q)

    join : {a : List Rule} → AllHold a → AllHold b → AllHold (a ++ b)
    join no_rule k = k
    join (one_more all h) k = one_more all (join h k)

-- ------------------------------------------------------------------------------------------------
-- A list of rules in two parts: the first part's refusal, and where it accepts the second part's answer

pub refusal_first :
    (a b : List Rule) (code : Code) (place : ℕ) → refusal a ≡ Refused code place → refusal (a ++ b) ≡ Refused code place
refusal_first a b code place e = first_fault_refused (on ((refused_iff a code place).0 e))
  where
    on : {a : List Rule} {code : Code} {place : ℕ} → FirstFault a code place → FirstFault (a ++ b) code place
    on (here inside below fails) = here inside below fails
    on (further all h) = further all (on h)

pub refusal_rest : (a b : List Rule) → refusal a ≡ Accepted → refusal (a ++ b) ≡ refusal b
refusal_rest a b e = on ((accepted_iff a).0 e)
  where
    on : {a : List Rule} → AllHold a → refusal (a ++ b) ≡ refusal b
    on no_rule = refl
    on (one_more {rule = rule} {later = later} all h) = holds_all rule (later ++ b) all ∙ on h

-- the same for code that asks a part, returns at its refusal, and asks the rest where it accepts
pub refuses_here :
    (a b : List Rule) {r : Answer} {code : Code} {place : ℕ} → r ≡ refusal a → r ≡ Refused code place → Refused code place ≡ refusal (a ++ b)
refuses_here a b is given = sym (refusal_first a b _ _ (sym is ∙ given))

-- an answer is its own
pub answer_itself : (r : Answer) → r ≡ answer_of r
answer_itself (Ok _) = refl
answer_itself (Err y) = refl

-- what `?` hands on of a refusal
pub hands_on :
    {X : Type 0} (r : Result X Refusal) {x : Answer} {e : Refusal} → Err e ≡ x → IsErr r × IsErrAnd r (λ y. y ≡ e) → answer_of r ≡ x
hands_on {X = X} r {x = x} {e = e} is on = go r on.1
  where
    go : (r : Result X Refusal) → IsErrAnd r (λ y. y ≡ e) → answer_of r ≡ x
    go (Ok _) h = absurd h
    go (Err y) h = ap (λ (z : Refusal). Err z) h ∙ is

-- the same where `?` hands the part's refusal on
pub refuses_on :
    (a b : List Rule) {x r : Answer} {e : Refusal} → x ≡ refusal a → x ≡ Err e → IsErr r × IsErrAnd r (λ y. y ≡ e) → r ≡ refusal (a ++ b)
refuses_on a b {r = r} is given on = answer_itself r ∙ hands_on r (refuses_here a b is given) on

pub answers_next : (a b : List Rule) {r x : Answer} → r ≡ refusal a → r ≡ Accepted → x ≡ refusal b → x ≡ refusal (a ++ b)
answers_next a b is given next = next ∙ sym (refusal_rest a b (sym is ∙ given))

-- two rules of which the second is asked where the first accepts
module _ (a b : Rule) {x r : Answer} (first : x ≡ refusal (a ∷ [])) where
  pub first_refuses : {e : Refusal} → r ≡ Err e → x ≡ Err e → r ≡ refusal (a ∷ b ∷ [])
  first_refuses on given = on ∙ refuses_here (a ∷ []) (b ∷ []) first given

  pub first_accepts : x ≡ Accepted → r ≡ refusal (b ∷ []) → r ≡ refusal (a ∷ b ∷ [])
  first_accepts given second = answers_next (a ∷ []) (b ∷ []) first given second
