-- Five idle programs are tried: demand 2 holds of none, though demand 3 by itself would let the first three by. Assumes nothing.
use mathlib.Core.Path.{◌≡◌, refl, sym, ap, ap₂, ◌∙◌}
use mathlib.Core.List.{List, [], ◌∷◌}
use Prim.Native.Nat.{ℕ, zero, suc, ◌≤◌}
use native.Mathlib.Omega.{arith}
use Rattle.base.specs.declared.codes.Stop.TheVariants as Stops
use Rattle.base.specs.declared.Refusal.{Refusal}
use Rattle.base.specs.Refusals.{Accepted, Answer}
use Rattle.base.proofs.BoolLaws.{impossible}
use Rattle.word.specs.Words.{signed, word_of}
use Rattle.table.proofs.Assembler.{assembled, immediate, var, word, binary, move, while}
use Rattle.typing.specs.Verdict.{check}
use Rattle.sealing.specs.Verdict.{seal_check}
use Rattle.memory.specs.Log.{entries}
use Rattle.running.specs.declared.Ending.TheVariants.{Done, Refused, Stopped}
use Rattle.running.specs.Start.{Start, start_rules, numbers_ok}
use Rattle.running.specs.Result.{run_rules, Accepts, Result, ran, result}
use Rattle.running.proofs.StartLaws.{result_ran}
use Rattle.demands.specs.Demands.{Library, of_functions, Demand2, Demand3}
use Rattle.demands.specs.Idle.{most_budget, granted, all_from_one, mixed, refusing, fixed, untouched, at_once, inventing}
use Rattle.demands.proofs.BudgetLaws.{SameBuffers, done_within}
use Rattle.demands.proofs.RuleLaws.{check_iff, seal_iff}

-- ------------------------------------------------------------------------------------------------
-- What they are tried with

-- "With x = 3, `while x neq 0 { x := x minus 1 }`"
countdown : List ℕ
unfolding assembled
countdown =
    assembled 8 (immediate 8 ∷ []) (var 0 ∷ word 8 0 ∷ binary 15 0 1 ∷ var 0 ∷ word 8 1 ∷ binary 2 3 4 ∷ []) (while 2 1 ∷ move 0 5 ∷ [])

with_budget : ℕ → Start
unfolding countdown
with_budget b = record { table = countdown; state = 1 ∷ 3 ∷ []; log = []; count = 0; next = 0; budget = b }

accepted : (b : ℕ) → Accepts (with_budget b)
unfolding with_budget result
accepted b = refl

-- "is done with 7 ticks"
at_7 : ran (with_budget 7) ≡ record { ending = Done; ticks = 7; count = 0; next = 0; state = 1 ∷ 0 ∷ []; log = [] }
unfolding with_budget ran signed word_of entries
at_7 = refl

-- "under budget 6 it stops with 35 at statement 0, x = 0"
at_6 : ran (with_budget 6) ≡ record { ending = Stopped Stops.NoTick 0; ticks = 6; count = 0; next = 0; state = 1 ∷ 0 ∷ []; log = [] }
unfolding with_budget ran signed word_of entries
at_6 = refl

ticks_at_8 : (ran (with_budget 8)).ticks ≡ 7
unfolding with_budget ran signed word_of entries
ticks_at_8 = refl

-- under budget 1 it stops at its first move, x = 3
at_1 : ran (with_budget 1) ≡ record { ending = Stopped Stops.NoTick 1; ticks = 1; count = 0; next = 0; state = 1 ∷ 3 ∷ []; log = [] }
unfolding with_budget ran signed word_of entries
at_1 = refl

-- ------------------------------------------------------------------------------------------------
-- Demand 2 shuts them out

-- a verdict that is the same for every table is shut out
pub one_verdict : (l : Library) (a : Answer) → ((s : List ℕ) → l.check s a) → Demand2 l → ⊥
unfolding check countdown
one_verdict l a same d =
    let yes-here : a ≡ Accepted = (d.verdict countdown a (same countdown)).1 ((check_iff countdown).0 refl) in
    let yes-there : check [] ≡ Accepted = (check_iff []).1 ((d.verdict [] a (same [])).0 yes-here) in
    impossible (cc)

pub one_seal_verdict : (l : Library) (a : Answer) → ((s : List ℕ) → l.seal s a) → Demand2 l → ⊥
unfolding seal_check countdown
one_seal_verdict l a same d =
    let yes-here : a ≡ Accepted = (d.seal countdown a (same countdown)).1 ((seal_iff countdown).0 refl) in
    let yes-there : seal_check [] ≡ Accepted = (seal_iff []).1 ((d.seal [] a (same [])).0 yes-here) in
    impossible (cc)

-- and so is a run that leaves every state as it was, whatever else it does
pub one_state : (check seal : List ℕ → Answer) (run : Start → Result) → ((s : Start) → (run s).state ≡ s.state) → Demand2 (of_functions check seal run) → ⊥
unfolding with_budget
one_state check seal run same d =
    let left : (run (with_budget 7)).state ≡ 1 ∷ 0 ∷ [] = ap (λ (r : Result). r.state) (d.run (with_budget 7) _ refl (accepted 7) ∙ at_7) in
    let was : (run (with_budget 7)).state ≡ 1 ∷ 3 ∷ [] = same (with_budget 7) in
    impossible (cc)

grows : (b : ℕ) → b ≤ most_budget → b ≤ all_from_one b
unfolding all_from_one
grows zero h = omega arith
grows (suc b) h = h

mixed_is : (r q : Result) → SameBuffers r q → mixed r q ≡ r
mixed_is r q h = rw (h.count, h.next, h.state, h.log) refl

module _ (check seal : List ℕ → Answer) where
  pub refusing_shut_out : (e : Refusal) → Demand2 (refusing check seal e) → ⊥
  unfolding refusing
  refusing_shut_out e d =
      let ending : Refused e ≡ Done = ap (λ (r : Result). r.ending) (d.run (with_budget 7) _ refl (accepted 7) ∙ at_7) in
      impossible (cc)

  pub fixed_shut_out : (r : Result) → Demand2 (fixed check seal r) → ⊥
  unfolding fixed
  fixed_shut_out r d =
      let seven : r.ticks ≡ 7 = ap (λ (q : Result). q.ticks) (d.run (with_budget 7) _ refl (accepted 7) ∙ at_7) in
      let six : r.ticks ≡ 6 = ap (λ (q : Result). q.ticks) (d.run (with_budget 6) _ refl (accepted 6) ∙ at_6) in
      absurd (omega arith)

  pub untouched_shut_out : Demand2 (untouched check seal) → ⊥
  unfolding untouched
  untouched_shut_out = one_state check seal _ (λ s. refl)

  -- at budget 1 its state is x = 0 already
  pub at_once_shut_out : Demand2 (at_once check seal) → ⊥
  unfolding at_once with_budget signed word_of
  at_once_shut_out d =
      let state : ◌≡◌ {A = List ℕ} (1 ∷ 0 ∷ []) (1 ∷ 3 ∷ []) = ap (λ (r : Result). r.state) (d.run (with_budget 1) _ refl (accepted 1) ∙ at_1) in
      impossible (cc)

  -- though wherever a budget suffices it gives what the rules give: only small budgets tell
  pub at_once_where_done :
      (s : Start) → Accepts s → s.budget ≤ most_budget → (result s).ending ≡ Done → (at_once check seal).run s (result s)
  unfolding at_once granted run_rules start_rules numbers_ok
  at_once_where_done s a h e =
      let here = result_ran s a in
      let there = result_ran (granted s (all_from_one s.budget)) a in
      let same = done_within s s.budget (all_from_one s.budget) (grows s.budget h) (sym (ap (λ (r : Result). r.ending) here) ∙ e) in
      sym (ap₂ mixed here there ∙ mixed_is (ran s) (ran (granted s (all_from_one s.budget))) same ∙ sym here)

  -- any ticks that differ from the definition's at one accepted start are shut out
  pub inventing_shut_out :
      (ticks : Start → ℕ) (s : Start) → Accepts s → (ticks s ≡ (ran s).ticks → ⊥) → Demand2 (inventing check seal ticks) → ⊥
  unfolding inventing
  inventing_shut_out ticks s a differ d = differ (ap (λ (r : Result). r.ticks) (d.run s _ refl a))

  -- the whole budget, or one number for every run
  pub budget_for_ticks_shut_out : Demand2 (inventing check seal (λ s. s.budget)) → ⊥
  unfolding with_budget
  budget_for_ticks_shut_out = inventing_shut_out (λ s. s.budget) (with_budget 8) (accepted 8) (λ e. absurd (omega (e, ticks_at_8, arith)))

  pub one_number_shut_out : (n : ℕ) → Demand2 (inventing check seal (λ s. n)) → ⊥
  unfolding inventing
  one_number_shut_out n d =
      let seven : n ≡ 7 = ap (λ (r : Result). r.ticks) (d.run (with_budget 7) _ refl (accepted 7) ∙ at_7) in
      let six : n ≡ 6 = ap (λ (r : Result). r.ticks) (d.run (with_budget 6) _ refl (accepted 6) ∙ at_6) in
      absurd (omega arith)

  -- ------------------------------------------------------------------------------------------------
  -- Demand 3 by itself would let the first three by

  pub refusing_let_by : (e : Refusal) → Demand3 (refusing check seal e)
  unfolding refusing
  refusing_let_by e s t r q clean a given given' =
      rw (given, given') (record { ending = refl; ticks = refl; next = a.next; count = a.count; values = a.values })

  pub fixed_let_by : (r : Result) → Demand3 (fixed check seal r)
  unfolding fixed
  fixed_let_by r s t x y clean a given given' =
      rw (given, given') (record { ending = refl; ticks = refl; next = refl; count = refl; values = λ x h o. refl })

  pub untouched_let_by : Demand3 (untouched check seal)
  unfolding untouched
  untouched_let_by s t r q clean a given given' =
      rw (given, given') (record { ending = refl; ticks = refl; next = a.next; count = a.count; values = a.values })
