-- The code and the C functions give what the rules give, to whatever is lent: so the three demands hold of them. Assumes nothing.
use mathlib.Core.Path.{◌≡◌, refl, sym, ap, ap₂, subst, ◌∙◌}
use mathlib.Core.Bool.{Bool}
use mathlib.Core.List.{List, [], ◌∷◌}
use Prim.Native.Nat.{ℕ}
use lib.ListN.{length}
use Rattle.std.specs.Borrow.{Bor, MutBor}
use borrow.Author.Tests.{eq-eqb, ne_eqb}
use Rattle.std.specs.Prelude.{if◌then◌else◌, Ok, Err}
use Rattle.base.specs.Refusals.{Answer, code_of, place_of}
use Rattle.table.specs.Bytes.{header}
use Rattle.typing.specs.Verdict.{check}
use Rattle.sealing.specs.Verdict.{seal_check}
use Rattle.running.specs.Start.{Start}
use Rattle.running.specs.Result.{Accepts, Result, result, ran, next_start}
use Rattle.running.proofs.StartLaws.{result_ran}
use Rattle.running.proofs.AcceptedLaws.{next_accepts}
use Rattle.verdict.proofs.CheckLaws.{checked}
use Rattle.runner.specs.declared.Outcome.{Outcome}
use Rattle.runner.specs.Given.{Gives}
use Rattle.secrecy.specs.Agreement.{SameResult}
use Rattle.demands.specs.Demands.{answer_of, Demand1, Demand2, Demand3}
use Rattle.demands.proofs.Theorems as Demands
use Rattle.bil.specs.RunCall.{Left, left, numbers}
use Rattle.bil.specs.RunCall as Outside
use Rattle.promises.specs.Promises.{Call, call, AsksNothing, Parameters, result_of, CheckCall, ReadingCall, SealCall, EntryCall, AcceptedCall, code, from_reading, from_accepted}
use Rattle.promises.specs.Promises.{CheckCode, CheckPlace, SealCode, SealPlace, RunCall, Answered, answered, told, Returned, returned, in_c}
use Rattle.promises.specs.Promises.{Plain, NothingAsked}

-- ------------------------------------------------------------------------------------------------
-- Nothing is asked

pub nothing_asked : NothingAsked
nothing_asked =
    record {
      bil_check_code = λ κ a. tt;
      bil_check_place = λ κ a. tt;
      bil_seal_code = λ κ a. tt;
      bil_seal_place = λ κ a. tt;
      bil_word_kind = λ κ a. tt;
      bil_word_value = λ κ a. tt;
      bil_run = λ κ a. tt;
      check = λ κ a. tt;
      accepted = λ κ a. tt;
      seal-check = λ κ a. tt;
      run = λ κ a. tt;
    }

-- a call of a function that asks nothing
free :
    {L A R S X Y : Type 0} {Pre : L → A → Type 0} {Post : L → A → R → S → Type 0} {taken : A → X} {given : R → S → Y} → AsksNothing Pre → (κ : L) (a : A)
    (r : R) (exit : S) → Post κ a r exit → Call Pre Post taken given (taken a) (given r exit)
free asks κ a r exit kept = call κ a r exit (asks κ a) kept

-- ------------------------------------------------------------------------------------------------
-- The code's entries

checks : {s : List ℕ} {r : Answer} → code.check s r → r ≡ check s
checks (call κ a r exit asked kept) = kept

reading_checks : {s : List ℕ} {r : Answer} → from_reading.check s r → r ≡ check s
reading_checks (call κ a r exit asked kept) = kept.0

seal_checks : {s : List ℕ} {r : Answer} → code.seal s r → r ≡ seal_check s
seal_checks (call κ a r exit asked kept) = kept

all : {x : Result} {r : Outcome} (exit : Parameters) → Gives x r exit.1.0.now exit.1.1.0.now → result_of r exit ≡ x
all exit g = rw (g.ending, g.ticks, g.count, g.next, g.state, g.log)

runs : {s : Start} {r : Result} → code.run s r → r ≡ result s
runs (call κ a r exit asked kept) = all exit kept

runs_accepted : {s : Start} {r : Result} → from_accepted.run s r → r ≡ result s
runs_accepted (call κ a r exit asked kept) = all exit kept.0 ∙ sym (result_ran _ asked)

code_gives : Demands.Gives code
code_gives = record { check = checks; seal = seal_checks; run = runs }

reading_gives : Demands.Gives from_reading
reading_gives = record { check = reading_checks; seal = seal_checks; run = runs }

accepted_gives : Demands.Gives from_accepted
accepted_gives = record { check = checks; seal = seal_checks; run = runs_accepted }

-- some reference to a list
abbrev ref : List ℕ → Bor (List ℕ)
ref l = record { ref_ptr = (0, 0); now = l }

-- some reference to a list that may be written
abbrev mut : List ℕ → MutBor (List ℕ)
mut l = record { ref_ptr = (0, 0); ghost_name = 0; now = l }

abbrev outcome_of : Result → Outcome
outcome_of x = record { ending = x.ending; ticks = x.ticks; count = x.count; next = x.next }

gives : (x : Result) → Gives x (outcome_of x) x.state x.log
gives x = record { ending = refl; ticks = refl; count = refl; next = refl; state = refl; log = refl }

abbrev lend : Start → List ℕ → List ℕ → Parameters
lend s state log = (ref s.table, (mut state, (mut log, (s.count, (s.next, (s.budget, tt))))))

-- what the rules give keeps the contracts, of whatever is taken
code_takes : Demands.Takes code
code_takes =
    record {
      check = λ s. free nothing_asked.check ([], tt) (ref s, tt) (check s) (ref s, tt) refl;
      seal = λ s. free nothing_asked.seal-check ([], tt) (ref s, tt) (seal_check s) (ref s, tt) refl;
      run = λ s.
          let x = result s in
          free nothing_asked.run ([], ([], ([], tt))) (lend s s.state s.log) (outcome_of x) (lend s x.state x.log) (gives x);
    }

-- a table that is accepted is read: its frame and its records hold
reading : (s : List ℕ) (x : Answer) → check s ≡ x → ReadingCall s x
reading s (Ok _) e =
    let is = checked s e in
    free nothing_asked.accepted ([], tt) (ref s, tt)
    (Ok record { frame = record { bytes = ref s; header = header s; framed = is.framed }; records = is.hold })
    (ref s, tt) (sym e, refl)
reading s (Err refused) e = free nothing_asked.accepted ([], tt) (ref s, tt) (Err refused) (ref s, tt) (sym e, tt)

reading_takes : Demands.Takes from_reading
reading_takes = record { check = λ s. reading s (check s) refl; seal = code_takes.seal; run = code_takes.run }

-- every call is in the library
pub every_check : {s : List ℕ} {r : Answer} → CheckCall s r → code.check s r
every_check c = c

pub every_reading : {s : List ℕ} {r : Answer} → ReadingCall s r → from_reading.check s r
every_reading c = c

pub every_seal : {s : List ℕ} {r : Answer} → SealCall s r → code.seal s r
every_seal c = c

pub every_run : {s : Start} {r : Result} → EntryCall s r → code.run s r
every_run c = c

pub every_accepted : {s : Start} {r : Result} → AcceptedCall s r → from_accepted.run s r
every_accepted c = c

pub accepted_checks : (s : List ℕ) → from_accepted.check s (check s) × from_accepted.seal s (seal_check s)
accepted_checks s = (code_takes.check s, code_takes.seal s)

-- and a run of an accepted start can be asked for
pub accepted_takes : (s : Start) → Accepts s → from_accepted.run s (ran s)
unfolding next_start
accepted_takes s a =
    let x = ran s in call ([], ([], ([], tt))) (lend s s.state s.log) (outcome_of x) (lend s x.state x.log) a (gives x, next_accepts s a)

-- ------------------------------------------------------------------------------------------------
-- What C calls

check_code : {s : List ℕ} {n : ℕ} → CheckCode s n → n ≡ code_of (check s)
check_code (call κ a r exit asked kept) = kept

check_place : {s : List ℕ} {n : ℕ} → CheckPlace s n → n ≡ place_of (check s)
check_place (call κ a r exit asked kept) = kept

seal_code : {s : List ℕ} {n : ℕ} → SealCode s n → n ≡ code_of (seal_check s)
seal_code (call κ a r exit asked kept) = kept

seal_place : {s : List ℕ} {n : ℕ} → SealPlace s n → n ≡ place_of (seal_check s)
seal_place (call κ a r exit asked kept) = kept

called : {x : Start × List ℕ} {l : Left} → RunCall x l → l ≡ Outside.call x.0 x.1
called (call κ a r exit asked kept) = kept

-- what a call leaves, by the test for room
module _ (s : Start) (o : List ℕ) where
  abbrev by : Bool → Left
  by t = let x = result s in if t then left 1 x.state x.log (numbers x) else left 0 s.state s.log o

  with_room : {l : Left} → RunCall (s, o) l → length o ≡ 5 → l ≡ left 1 (result s).state (result s).log (numbers (result s))
  with_room c h = called c ∙ ap by (eq-eqb _ _ h)

  without : {l : Left} → RunCall (s, o) l → (length o ≡ 5 → ⊥) → l ≡ left 0 s.state s.log o
  without c h = called c ∙ ap by (ne_eqb _ _ h)

-- the five numbers tell the result
told_is : (s : Start) → told (left 1 (result s).state (result s).log (numbers (result s))) ≡ result s
told_is s = rw ((Demands.decided).endings s) refl

answered_check : {s : List ℕ} {r : Answer} → Answered CheckCode CheckPlace s r → r ≡ check s
answered_check {s} (answered _ _ c p) = ap₂ answer_of (check_code c) (check_place p) ∙ (Demands.decided).answers s

answered_seal : {s : List ℕ} {r : Answer} → Answered SealCode SealPlace s r → r ≡ seal_check s
answered_seal {s} (answered _ _ c p) = ap₂ answer_of (seal_code c) (seal_place p) ∙ (Demands.decided).seal_answers s

returned_run : {s : Start} {r : Result} → Returned s r → r ≡ result s
returned_run {s} (returned out l h c) = ap told (with_room s out c h) ∙ told_is s

c_gives : Demands.Gives in_c
c_gives = record { check = answered_check; seal = answered_seal; run = returned_run }

run_call : (s : Start) (o : List ℕ) → RunCall (s, o) (Outside.call s o)
run_call s o =
    let l = Outside.call s o in
    free nothing_asked.bil_run ([], ([], ([], ([], tt)))) (ref s.table, (mut s.state, (mut s.log, (s.count, (s.next, (s.budget, (mut o, tt)))))))
    l.answer (ref s.table, (mut l.state, (mut l.log, (s.count, (s.next, (s.budget, (mut l.out, tt))))))) refl

c_takes : Demands.Takes in_c
c_takes =
    record {
      check = λ s.
          subst (Answered CheckCode CheckPlace s) ((Demands.decided).answers s)
          (answered (code_of (check s)) (place_of (check s)) (free nothing_asked.bil_check_code ([], tt) (ref s, tt) (code_of (check s)) (ref s, tt) refl)
          (free nothing_asked.bil_check_place ([], tt) (ref s, tt) (place_of (check s)) (ref s, tt) refl));
      seal = λ s.
          subst (Answered SealCode SealPlace s) ((Demands.decided).seal_answers s)
          (answered (code_of (seal_check s)) (place_of (seal_check s))
          (free nothing_asked.bil_seal_code ([], tt) (ref s, tt) (code_of (seal_check s)) (ref s, tt) refl)
          (free nothing_asked.bil_seal_place ([], tt) (ref s, tt) (place_of (seal_check s)) (ref s, tt) refl));
      run = λ s. subst (Returned s) (told_is s) (returned (0 ∷ 0 ∷ 0 ∷ 0 ∷ 0 ∷ []) _ refl (run_call s (0 ∷ 0 ∷ 0 ∷ 0 ∷ 0 ∷ [])));
    }

-- ------------------------------------------------------------------------------------------------
-- The demands

pub demand_1 : Demand1 code
demand_1 = Demands.demand_1 code code_gives code_takes

pub demand_2 : Demand2 code
demand_2 = Demands.demand_2 code code_gives

pub demand_3 : Demand3 code
demand_3 = Demands.demand_3 code code_gives

pub reading_demand_1 : Demand1 from_reading
reading_demand_1 = Demands.demand_1 from_reading reading_gives reading_takes

pub reading_demand_2 : Demand2 from_reading
reading_demand_2 = Demands.demand_2 from_reading reading_gives

pub reading_demand_3 : Demand3 from_reading
reading_demand_3 = Demands.demand_3 from_reading reading_gives

pub accepted_demand_2 : Demand2 from_accepted
accepted_demand_2 = Demands.demand_2 from_accepted accepted_gives

pub accepted_demand_3 : Demand3 from_accepted
accepted_demand_3 = Demands.demand_3 from_accepted accepted_gives

pub c_demand_1 : Demand1 in_c
c_demand_1 = Demands.demand_1 in_c c_gives c_takes

pub c_demand_2 : Demand2 in_c
c_demand_2 = Demands.demand_2 in_c c_gives

pub c_demand_3 : Demand3 in_c
c_demand_3 = Demands.demand_3 in_c c_gives

-- every call is in the library
pub every_c_check : {s : List ℕ} {c p : ℕ} → CheckCode s c → CheckPlace s p → in_c.check s (answer_of c p)
every_c_check = answered _ _

pub every_c_seal : {s : List ℕ} {c p : ℕ} → SealCode s c → SealPlace s p → in_c.seal s (answer_of c p)
every_c_seal = answered _ _

pub every_c_run : {s : Start} {out : List ℕ} {l : Left} → length out ≡ 5 → RunCall (s, out) l → in_c.run s (told l)
every_c_run = returned _ _

-- what numbers tell has these numbers
abbrev SameNumbers : ℕ → ℕ → Type 0
SameNumbers c p = (c ≡ code_of (answer_of c p)) × (p ≡ place_of (answer_of c p))

plain_numbers : (a : Answer) {c p : ℕ} → answer_of (code_of a) (place_of a) ≡ a → c ≡ code_of a → p ≡ place_of a → SameNumbers c p
plain_numbers a e c p = rw (c, p) (sym (ap code_of e), sym (ap place_of e))

plain_run : (s : Start) (out : List ℕ) (l : Left) → RunCall (s, out) l → length out ≡ 5 → (l.answer ≡ 1) × (l.out ≡ numbers (told l))
plain_run s out l c h =
    let e = with_room s out c h in
    (ap (λ (x : Left). x.answer) e, ap (λ (x : Left). x.out) e ∙ ap numbers (sym (ap told e ∙ told_is s)))

-- results that say the same of a run have the same five numbers
same_five : {table : List ℕ} {r q : Result} → SameResult table r q → numbers r ≡ numbers q
same_five x = rw (x.ending, x.ticks, x.count, x.next) refl

pub plain : Plain
plain =
    record {
      check = λ s c p code place. plain_numbers (check s) ((Demands.decided).answers s) (check_code code) (check_place place);
      seal = λ s c p code place. plain_numbers (seal_check s) ((Demands.decided).seal_answers s) (seal_code code) (seal_place place);
      run = plain_run;
      alike = λ s t out other l m clean agree c d h k.
          (plain_run s out l c h).1 ∙ same_five (c_demand_3 s t (told l) (told m) clean agree (every_c_run h c) (every_c_run k d))
          ∙ sym (plain_run t other m d k).1;
      no_room = λ s out l. without s out;
    }
