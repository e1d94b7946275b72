-- What each demand shuts out by itself: a program for each thing that it names. Assumes nothing.
use mathlib.Core.Path.{◌≡◌, refl, sym, ap, ◌∙◌}
use mathlib.Core.Logic.{◌↔◌}
use mathlib.Core.Bool.{false, true≢false}
use mathlib.Core.List.{List, [], ◌∷◌, ◌++◌}
use Prim.Native.Nat.{ℕ, zero, suc, ◌<◌}
use native.Mathlib.Omega.{arith}
use lib.Dec.{eqb}
use lib.ListN.{set}
use Rattle.std.specs.Prelude.{if◌then◌else◌, Err}
use Rattle.base.specs.declared.codes.Code.{Code}
use Rattle.base.specs.declared.codes.Code.TheVariants as Codes
use Rattle.base.specs.declared.codes.Stop.TheVariants as Stops
use Rattle.base.specs.declared.Refusal.{Refusal}
use Rattle.base.specs.Refusals.{Accepted, Refused, Answer, refusal}
use Rattle.base.proofs.BoolLaws.{impossible}
use Rattle.base.proofs.RefusalLaws.{refused_iff, refused_apart}
use Rattle.table.specs.Decode.{context}
use Rattle.table.proofs.Assembler.{assembled, immediate, memory, sealed, var, move, special}
use Rattle.typing.specs.Verdict.{check_rules, check}
use Rattle.sealing.specs.Verdict.{seal_rules, seal_check}
use Rattle.memory.specs.Log.{Cell, entries}
use Rattle.memory.specs.Typed.{Has}
use Rattle.evaluation.specs.State.{in_state}
use Rattle.running.specs.declared.Ending.TheVariants as Endings
use Rattle.running.specs.Start.{Start, log_of}
use Rattle.running.specs.Result.{Result, result, run_rules, refused, next_start}
use Rattle.secrecy.specs.Agreement.{Agreeing, SameResult, Content, content}
use Rattle.demands.specs.Demands.{of_functions, Demand1, RulesHold, Demand2, TypesKept, StartsAgain, Demand3}
use Rattle.demands.specs.Refuted.{silent_check, silent_seal, silent_run, misplaced, last_first, accepting, refusing_all, at_refusal}
use Rattle.demands.specs.Refuted.{with_ending, with_ticks, with_count, with_next, with_state, with_log, leaving, telling, storing}
use Rattle.demands.proofs.RuleLaws.{check_iff, seal_iff}

-- ------------------------------------------------------------------------------------------------
-- What they are tried with

-- a sealed byte, an open byte, an open memory, a sealed one and one more open byte; nothing is done
table : List ℕ
unfolding assembled
table = assembled 8 (sealed (immediate 8) ∷ immediate 8 ∷ memory 8 ∷ sealed (memory 8) ∷ immediate 8 ∷ []) [] (special 0 ∷ [])

-- the sealed byte is n, the open ones 0, the open memory absent, n stands at 5 of the sealed one, and there is room for one entry more: so
-- two of them differ in their logs, which are not empty
start : ℕ → ℕ → Start
unfolding table
start n budget =
    record {
      table = table;
      state = 1 ∷ n ∷ 1 ∷ 0 ∷ 0 ∷ 0 ∷ 3 ∷ 1 ∷ 1 ∷ 0 ∷ [];
      log = 0 ∷ 8 ∷ 5 ∷ n ∷ 0 ∷ 0 ∷ 0 ∷ 0 ∷ [];
      count = 1;
      next = 255;
      budget = budget;
    }

-- the sealed byte is moved to the open one
leaky : List ℕ
unfolding assembled
leaky = assembled 8 (sealed (immediate 8) ∷ immediate 8 ∷ []) (var 0 ∷ []) (move 1 0 ∷ [])

-- no table at all, with a state of two numbers
none : Start
none = record { table = []; state = 0 ∷ 0 ∷ []; log = 0 ∷ 0 ∷ 0 ∷ 0 ∷ []; count = 0; next = 5; budget = 9 }

good : check table ≡ Accepted
unfolding check table
good = refl

clean : seal_check table ≡ Accepted
unfolding seal_check table
clean = refl

-- what it is refused with, and the same code at a wrong place
abbrev first : Refusal
first = record { code = Codes.TooShort; place = 0 }

abbrev second : Refusal
second = record { code = Codes.TooShort; place = 1 }

bad : check [] ≡ Refused Codes.TooShort 0
unfolding check
bad = refl

answers_apart : {a : Answer} → a ≡ Accepted → a ≡ Refused Codes.Pair 1 → ⊥
answers_apart p q = impossible (cc)

place_apart : Refused Codes.TooShort 0 ≡ Refused Codes.TooShort 1 → ⊥
place_apart e = absurd (omega ((refused_apart e).1, arith))

code_apart : Refused Codes.TooShort 0 ≡ Refused Codes.Length 0 → ⊥
code_apart e = let same : Codes.TooShort ≡ Codes.Length = (refused_apart e).0 in impossible (cc)

-- two starts that differ in what is sealed alone, at any budget
agreeing : (budget : ℕ) → Agreeing (start 3 budget) (start 9 budget)
unfolding start table context content result entries
agreeing budget =
    record {
      accepted = refl;
      accepted' = refl;
      table = refl;
      budget = refl;
      next = refl;
      room = refl;
      count = refl;
      values = values;
    }
  where
    values : (x : ℕ) → x < 5 → (context table).sealed x ≡ false
        → content (log_of (start 3 budget)) (in_state (start 3 budget).state ((context table).type x) x)
        ≡ content (log_of (start 9 budget)) (in_state (start 9 budget).state ((context table).type x) x)
    values zero h o = absurd (true≢false o)
    values (suc zero) h o = refl
    values (suc (suc zero)) h o = refl
    values (suc (suc (suc zero))) h o = absurd (true≢false o)
    values (suc (suc (suc (suc zero)))) h o = refl
    values (suc (suc (suc (suc (suc x))))) h o = absurd (omega arith)

-- ------------------------------------------------------------------------------------------------
-- Demand 1

-- "takes every table, state and log .., and ends": an entry that gives nothing
pub no_answer : Demand1 silent_check → ⊥
unfolding silent_check
no_answer d = (d.checks []).1

pub no_seal_answer : Demand1 silent_seal → ⊥
unfolding silent_seal
no_seal_answer d = (d.seals []).1

pub no_result : Demand1 silent_run → ⊥
unfolding silent_run none
no_result d = (d.runs none).1

-- what it says of functions: a refusal is the rules' own, and the rules' refusal is given
module _ (f g : List ℕ → Answer) (run : Start → Result) (d : Demand1 (of_functions f g run)) where
  named : (s : List ℕ) (code : Code) (place : ℕ) → f s ≡ Refused code place → check s ≡ Refused code place
  unfolding check
  named s code place e = (refused_iff (check_rules s) code place).1 ((d.check s (f s) refl code place).0 e)

  met : (s : List ℕ) (code : Code) (place : ℕ) → check s ≡ Refused code place → f s ≡ Refused code place
  unfolding check
  met s code place e = (d.check s (f s) refl code place).1 ((refused_iff (check_rules s) code place).0 e)

  seal_named : (s : List ℕ) (code : Code) (place : ℕ) → g s ≡ Refused code place → seal_check s ≡ Refused code place
  unfolding seal_check
  seal_named s code place e = (refused_iff (check_rules s ++ seal_rules s) code place).1 ((d.seal s (g s) refl code place).0 e)

  seal_met : (s : List ℕ) (code : Code) (place : ℕ) → seal_check s ≡ Refused code place → g s ≡ Refused code place
  unfolding seal_check
  seal_met s code place e = (d.seal s (g s) refl code place).1 ((refused_iff (check_rules s ++ seal_rules s) code place).0 e)

  run_named : (s : Start) (e : Refusal) → (run s).ending ≡ Endings.Refused e → refusal (run_rules s) ≡ Err e
  run_named s e is = (refused_iff (run_rules s) e.code e.place).1 ((d.run s (run s) refl e).0 is)

  run_met : (s : Start) (e : Refusal) → refusal (run_rules s) ≡ Err e → (run s).ending ≡ Endings.Refused e
  run_met s e is = (d.run s (run s) refl e).1 ((refused_iff (run_rules s) e.code e.place).0 is)

  left_alone : (s : Start) (e : Refusal) → (run s).ending ≡ Endings.Refused e → run s ≡ refused s e
  left_alone s e = d.unchanged s (run s) refl e

-- "with its place": the right code with a wrong place
pub wrong_place : Demand1 (of_functions (λ s. misplaced (check s)) seal_check result) → ⊥
unfolding misplaced check
wrong_place d = place_apart (sym bad ∙ named _ _ _ d [] Codes.TooShort 1 refl)

pub wrong_seal_place : Demand1 (of_functions check (λ s. misplaced (seal_check s)) result) → ⊥
unfolding misplaced seal_check
wrong_seal_place d = let here : seal_check [] ≡ Refused Codes.TooShort 0 = refl in place_apart (sym here ∙ seal_named _ _ _ d [] Codes.TooShort 1 refl)

pub wrong_run_place : Demand1 (of_functions check seal_check (λ s. at_refusal (with_ending (Endings.Refused second)) (result s))) → ⊥
unfolding at_refusal with_ending result none run_rules
wrong_run_place d = let here : refusal (run_rules none) ≡ Err first = refl in place_apart (sym here ∙ run_named _ _ _ d none second refl)

-- "the first refusal in document 01's order": a later fault named first. A table of no bytes has no format either.
pub later_fault : Demand1 (of_functions (λ s. last_first (check_rules s)) seal_check result) → ⊥
unfolding last_first check_rules check
later_fault d = let there : check [] ≡ Refused Codes.Length 0 = named _ _ _ d [] Codes.Length 0 refl in absurd (code_apart (sym bad ∙ there))

-- "A faulty one is answered by .. refusal": a fault that is accepted
pub fault_accepted : Demand1 (of_functions accepting seal_check result) → ⊥
unfolding accepting check
fault_accepted d = let there : accepting [] ≡ Refused Codes.TooShort 0 = met _ _ _ d [] Codes.TooShort 0 refl in impossible (cc)

pub seal_fault_accepted : Demand1 (of_functions check accepting result) → ⊥
unfolding accepting seal_check
seal_fault_accepted d = let there : accepting [] ≡ Refused Codes.TooShort 0 = seal_met _ _ _ d [] Codes.TooShort 0 refl in impossible (cc)

pub start_accepted : Demand1 (of_functions check seal_check (λ s. at_refusal (with_ending Endings.Done) (result s))) → ⊥
unfolding at_refusal with_ending result none run_rules
start_accepted d = let there : Endings.Done ≡ Endings.Refused first = run_met _ _ _ d none first refl in impossible (cc)

-- and no other: a good table refused
pub good_refused : Demand1 (of_functions refusing_all seal_check result) → ⊥
unfolding refusing_all
good_refused d = let there : check table ≡ Refused Codes.TooShort 0 = named _ _ _ d table Codes.TooShort 0 refl in let here = good in impossible (cc)

-- "and the buffers stay unchanged": a refusal that writes the state, the log or the next address
pub state_written : Demand1 (of_functions check seal_check (λ s. at_refusal (with_state []) (result s))) → ⊥
unfolding at_refusal with_state result none refused
state_written d = let same : ◌≡◌ {A = List ℕ} [] (0 ∷ 0 ∷ []) = ap (λ (r : Result). r.state) (left_alone _ _ _ d none first refl) in impossible (cc)

pub log_written : Demand1 (of_functions check seal_check (λ s. at_refusal (with_log []) (result s))) → ⊥
unfolding at_refusal with_log result none refused
log_written d = let same : ◌≡◌ {A = List ℕ} [] (0 ∷ 0 ∷ 0 ∷ 0 ∷ []) = ap (λ (r : Result). r.log) (left_alone _ _ _ d none first refl) in impossible (cc)

pub next_written : Demand1 (of_functions check seal_check (λ s. at_refusal (with_next 0) (result s))) → ⊥
unfolding at_refusal with_next result none refused
next_written d = let same : ◌≡◌ {A = ℕ} 0 5 = ap (λ (r : Result). r.next) (left_alone _ _ _ d none first refl) in absurd (omega arith)

-- ------------------------------------------------------------------------------------------------
-- Demand 2. The five idle programs: IdleLaws.

-- "exactly when": a verdict that is never yes is sound, one that is always yes complete, and neither is exact
pub only_sound : Demand2 (of_functions refusing_all seal_check result) → ⊥
unfolding refusing_all
only_sound d =
    let exact : (refusing_all table ≡ Accepted) ↔ RulesHold table = d.verdict table (refusing_all table) refl in
    let yes-there : refusing_all table ≡ Accepted = exact.1 ((check_iff table).0 good) in
    impossible (cc)

pub only_complete : Demand2 (of_functions accepting seal_check result) → ⊥
unfolding accepting check
only_complete d = let yes-there : check [] ≡ Accepted = (check_iff []).1 ((d.verdict [] Accepted refl).0 refl) in impossible (cc)

pub seal_only_sound : Demand2 (of_functions check refusing_all result) → ⊥
unfolding refusing_all
seal_only_sound d = let yes-there : refusing_all table ≡ Accepted = (d.seal table (refusing_all table) refl).1 ((seal_iff table).0 clean) in impossible (cc)

-- "when its seal rules hold too": a seal verdict that is the verdict
pub seal_only_complete : Demand2 (of_functions check check result) → ⊥
unfolding check seal_check leaky
seal_only_complete d = let yes-there : seal_check leaky ≡ Accepted = (seal_iff leaky).1 ((d.seal leaky Accepted refl).0 refl) in impossible (cc)

-- "Every variable then still has its declared type.": a program leaves one variable otherwise
-- the sealed byte as 300: types kept for open variables only
pub open_types_only : TypesKept (of_functions check seal_check (leaving 0 1 300)) → ⊥
unfolding leaving with_state start table result context
open_types_only d = let kept : Has _ _ _ = d (start 3 9) _ refl refl 0 (omega arith) in let fits = kept.sound in absurd (omega (fits, arith))

-- the open memory as a word: types kept for words only
pub word_types_only : TypesKept (of_functions check seal_check (leaving 2 1 0)) → ⊥
unfolding leaving with_state start table result context
word_types_only d = let type = (d (start 3 9) _ refl refl 2 (omega arith)).type in impossible (cc)

-- the last variable as 300
pub last_type_free : TypesKept (of_functions check seal_check (leaving 4 1 300)) → ⊥
unfolding leaving with_state start table result context
last_type_free d = let fits = (d (start 3 9) _ refl refl 4 (omega arith)).sound in absurd (omega (fits, arith))

-- the sealed memory from an entry that isn't there
pub head_free : TypesKept (of_functions check seal_check (leaving 3 3 9)) → ⊥
unfolding leaving with_state start table result context entries
head_free d = let most = (d (start 3 9) _ refl refl 3 (omega arith)).head.link.most in absurd (omega (most, arith))

-- and demand 2 has that clause
pub types_in_demand_2 : Demand2 (of_functions check seal_check (leaving 0 1 300)) → ⊥
types_in_demand_2 d = open_types_only d.types

-- what is left can be lent again: a pair that no start may have, where the run is done and where it is stopped
pub done_not_again : StartsAgain (of_functions check seal_check (leaving 1 2 5)) → ⊥
unfolding leaving with_state start table result run_rules next_start
done_not_again d = answers_apart (d (start 3 9) _ refl refl 9) refl

pub stop_not_again : StartsAgain (of_functions check seal_check (leaving 1 2 5)) → ⊥
unfolding leaving with_state start table result run_rules next_start
stop_not_again d = answers_apart (d (start 3 0) _ refl refl 9) refl

-- ------------------------------------------------------------------------------------------------
-- Demand 3: "Both runs give the same answer, place, tick count, next address and log count, and the same final value of each open
-- variable." A program for each, which tells the sealed byte there.

-- two runs that tell 3 and 9
told : (tell : ℕ → Result → Result) → Demand3 (of_functions check seal_check (telling tell))
    → SameResult table (tell 3 (result (start 3 9))) (tell 9 (result (start 9 9)))
unfolding telling start
told tell d = d (start 3 9) (start 9 9) _ _ (sym clean) (agreeing 9) refl refl

apart : ◌≡◌ {A = ℕ} 3 9 → ⊥
apart e = absurd (omega arith)

pub through_answer : Demand3 (of_functions check seal_check (telling (λ n. with_ending (Endings.Stopped (if eqb n 3 then Stops.GuardUnknown else Stops.JumpUnknown) 0)))) → ⊥
unfolding with_ending
through_answer d = let same = (told _ d).ending in apart (cc)

-- done or stopped
pub through_done :
    Demand3 (of_functions check seal_check (telling (λ n. with_ending (if eqb n 3 then Endings.Done else Endings.Stopped Stops.GuardUnknown 0)))) → ⊥
unfolding with_ending
through_done d = let same : Endings.Done ≡ Endings.Stopped Stops.GuardUnknown 0 = (told _ d).ending in impossible (cc)

pub through_place : Demand3 (of_functions check seal_check (telling (λ n. with_ending (Endings.Stopped Stops.GuardUnknown n)))) → ⊥
unfolding with_ending
through_place d = let same = (told _ d).ending in apart (cc)

pub through_ticks : Demand3 (of_functions check seal_check (telling with_ticks)) → ⊥
unfolding with_ticks
through_ticks d = apart (told _ d).ticks

pub through_next : Demand3 (of_functions check seal_check (telling with_next)) → ⊥
unfolding with_next
through_next d = apart (told _ d).next

pub through_count : Demand3 (of_functions check seal_check (telling with_count)) → ⊥
unfolding with_count
through_count d = apart (told _ d).count

-- an open word
pub through_word : Demand3 (of_functions check seal_check (telling (λ n r. with_state (set r.state 3 n) r))) → ⊥
unfolding with_state start table result context content
through_word d =
    let same : Content.word 8 3 ≡ Content.word 8 9 = (told _ d).values 1 (omega arith) refl in
    apart (cc)

-- the last variable
pub through_last : Demand3 (of_functions check seal_check (telling (λ n r. with_state (set r.state 9 n) r))) → ⊥
unfolding with_state start table result context content
through_last d =
    let same : Content.word 8 3 ≡ Content.word 8 9 = (told _ d).values 4 (omega arith) refl in
    apart (cc)

-- known or unknown
pub through_unknown : Demand3 (of_functions check seal_check (telling (λ n r. with_state (set r.state 2 (if eqb n 3 then 1 else 2)) r))) → ⊥
unfolding with_state start table result context content
through_unknown d = let same = (told _ d).values 1 (omega arith) refl in impossible (cc)

-- an open memory's stores: two more entries, of which one's byte it is
cell_apart : (a b : List Cell) → ◌≡◌ {A = List Cell} (record { address = 1; byte = 3 } ∷ a) (record { address = 1; byte = 9 } ∷ b) → ⊥
cell_apart a b e =
    let cells : ◌≡◌ {A = Cell} (record { address = 1; byte = 3 }) (record { address = 1; byte = 9 }) = cc in
    apart (ap (λ (c : Cell). c.byte) cells)

pub through_memory : Demand3 (of_functions check seal_check (telling (λ n. storing (0 ∷ 8 ∷ 0 ∷ 7 ∷ 2 ∷ 8 ∷ 1 ∷ n ∷ [])))) → ⊥
unfolding storing with_count with_state with_log start table result context content entries
through_memory d =
    let same :
    Content.memory 8 (record { address = 1; byte = 3 } ∷ record { address = 0; byte = 7 } ∷ [])
    ≡ Content.memory 8 (record { address = 1; byte = 9 } ∷ record { address = 0; byte = 7 } ∷ []) =
    (told _ d).values 2 (omega arith) refl in
    cell_apart (record { address = 0; byte = 7 } ∷ []) (record { address = 0; byte = 7 } ∷ []) (cc)

-- in the older one
pub through_older_store : Demand3 (of_functions check seal_check (telling (λ n. storing (0 ∷ 8 ∷ 1 ∷ n ∷ 2 ∷ 8 ∷ 0 ∷ 7 ∷ [])))) → ⊥
unfolding storing with_count with_state with_log start table result context content entries
through_older_store d =
    let same :
    Content.memory 8 (record { address = 0; byte = 7 } ∷ record { address = 1; byte = 3 } ∷ [])
    ≡ Content.memory 8 (record { address = 0; byte = 7 } ∷ record { address = 1; byte = 9 } ∷ []) =
    (told _ d).values 2 (omega arith) refl in
    cell_apart [] [] (cc)
