-- The code and what C calls, as libraries of the demands (demands, Demands): a call's contract, as the toolchain reads it, says which answer
-- may be given to what was lent. The toolchain proves that every call of a function ends and keeps its contract; proofs/Proofs.antt that the
-- three demands hold of each library here. A contract speaks of lists of any numbers, so whatever can be lent is among them. Assumes nothing.
use Rattle.std.specs.Prelude.{◌≡◌, List, ℕ, length, get_or}
use Rattle.std.specs.Borrow.{Bor, MutBor}
use Rattle.base.specs.Refusals as Refusals
use Rattle.base.specs.Refusals.{Answer, Accepted, code_of, place_of}
use Rattle.running.specs.Start.{Start}
use Rattle.running.specs.Result.{Result}
use Rattle.starts.specs.Lent.{lent}
use Rattle.runner.specs.declared.Outcome.{Outcome}
use Rattle.secrecy.specs.Agreement.{Agreeing}
use Rattle.demands.specs.Demands.{Library, answer_of, ending_of}
use Rattle.bil.specs.RunCall.{Left, left, numbers}
use Rattle.verdict.proofs as verdict
use Rattle.runner.proofs as runner
use Rattle.bil.proofs as bil

-- What a call took and what it gave, where it was made as the contract asks and kept the contract: L are the lifetimes, A the
-- parameters, R the result, S the parameters at exit.
pub data Call {L A R S X Y : Type 0} (Pre : L → A → Type 0) (Post : L → A → R → S → Type 0) (taken : A → X) (given : R → S → Y) : X → Y → Type 0 where
  call : (κ : L) (a : A) (r : R) (exit : S) → Pre κ a → Post κ a r exit → Call Pre Post taken given (taken a) (given r exit)

-- ------------------------------------------------------------------------------------------------
-- The code's entries

-- a run's parameters: table, state, log, log count, next address, budget
abbrev pub Parameters : Type 0
Parameters = Bor (List ℕ) × (MutBor (List ℕ) × (MutBor (List ℕ) × (ℕ × (ℕ × (ℕ × Unit {0})))))

abbrev pub start_of : Parameters → Start
start_of a = lent a.0.now a.1.0.now a.1.1.0.now a.1.1.1.0 a.1.1.1.1.0 a.1.1.1.1.1.0

-- the numbers given back, and what state and log hold at exit
abbrev pub result_of : Outcome → Parameters → Result
result_of r exit =
    record { ending = r.ending; ticks = r.ticks; count = r.count; next = r.next; state = exit.1.0.now; log = exit.1.1.0.now }

-- `verdict::check`, `verdict::accepted`, `verdict::seal_check`, `runner::entry::run` and `runner::accepted::run_accepted` took this and gave that
abbrev pub CheckCall : List ℕ → Answer → Type 0
CheckCall = Call verdict.check.Reads.Pre verdict.check.Reads.Post (λ a. a.0.now) (λ r exit. r)

-- of which the second gives an accepted table too: its answer is what it refuses with, or that it accepts
abbrev pub ReadingCall : List ℕ → Answer → Type 0
ReadingCall = Call verdict.accepted.Reads.Pre verdict.accepted.Reads.Post (λ a. a.0.now) (λ r exit. Refusals.answer_of r)

abbrev pub SealCall : List ℕ → Answer → Type 0
SealCall = Call verdict.seal_check.Reads.Pre verdict.seal_check.Reads.Post (λ a. a.0.now) (λ r exit. r)

abbrev pub EntryCall : Start → Result → Type 0
EntryCall = Call runner.entry.run.Reads.Pre runner.entry.run.Reads.Post start_of result_of

abbrev pub AcceptedCall : Start → Result → Type 0
AcceptedCall = Call runner.accepted.run_accepted.Reads.Pre runner.accepted.run_accepted.Reads.Post start_of result_of

abbrev pub code : Library
code = record { check = CheckCall; seal = SealCall; run = EntryCall }

-- the verdict of whoever goes on with the table that it gives, as `bilrun` and the run
abbrev pub from_reading : Library
from_reading = record { check = ReadingCall; seal = SealCall; run = EntryCall }

-- the last asks for an accepted start: demands 2 and 3 speak of no other
abbrev pub from_accepted : Library
from_accepted = record { check = CheckCall; seal = SealCall; run = AcceptedCall }

-- ------------------------------------------------------------------------------------------------
-- What C calls

-- `bil_check_code` took these bytes and gave this number; so the three others
abbrev pub CheckCode : List ℕ → ℕ → Type 0
CheckCode = Call bil.bil_check_code.Reads.Pre bil.bil_check_code.Reads.Post (λ a. a.0.now) (λ r exit. r)

abbrev pub CheckPlace : List ℕ → ℕ → Type 0
CheckPlace = Call bil.bil_check_place.Reads.Pre bil.bil_check_place.Reads.Post (λ a. a.0.now) (λ r exit. r)

abbrev pub SealCode : List ℕ → ℕ → Type 0
SealCode = Call bil.bil_seal_code.Reads.Pre bil.bil_seal_code.Reads.Post (λ a. a.0.now) (λ r exit. r)

abbrev pub SealPlace : List ℕ → ℕ → Type 0
SealPlace = Call bil.bil_seal_place.Reads.Pre bil.bil_seal_place.Reads.Post (λ a. a.0.now) (λ r exit. r)

-- `bil_run` took this start, with these numbers in out, and left this
abbrev pub RunCall : Start × List ℕ → Left → Type 0
RunCall =
    Call bil.bil_run.Reads.Pre bil.bil_run.Reads.Post
    (λ a. (
      lent a.0.now a.1.0.now a.1.1.0.now a.1.1.1.0 a.1.1.1.1.0 a.1.1.1.1.1.0,
      a.1.1.1.1.1.1.0.now,
    ))
    (λ r exit. left r exit.1.0.now exit.1.1.0.now exit.1.1.1.1.1.1.0.now)

-- the answer that a code and a place tell
pub data Answered (Code Place : List ℕ → ℕ → Type 0) (s : List ℕ) : Answer → Type 0 where
  answered : (code place : ℕ) → Code s code → Place s place → Answered Code Place s (answer_of code place)

-- the result that the five numbers tell, with the two buffers
abbrev pub told : Left → Result
told l =
    let number : ℕ → ℕ = λ i. get_or l.out i 0 in
    record { ending = ending_of (number 0) (number 1); ticks = number 2; count = number 3; next = number 4; state = l.state; log = l.log }

pub data Returned (s : Start) : Result → Type 0 where
  returned : (out : List ℕ) (l : Left) → length out ≡ 5 → RunCall (s, out) l → Returned s (told l)

abbrev pub in_c : Library
in_c = record { check = Answered CheckCode CheckPlace; seal = Answered SealCode SealPlace; run = Returned }

-- Beside the demands: the numbers say no more than what they tell, so that a place is 0 where the code is; "Both runs give the same answer,
-- place, tick count, next address and log count" of the numbers themselves, whatever they tell; and "1, and the five numbers in
-- out; 0 where out_size is not 5: then nothing is written anywhere" (bil.h).
pub record Plain : Type 0 where
  pub check : (s : List ℕ) (c p : ℕ) → CheckCode s c → CheckPlace s p → (c ≡ code_of (answer_of c p)) × (p ≡ place_of (answer_of c p))
  pub seal : (s : List ℕ) (c p : ℕ) → SealCode s c → SealPlace s p → (c ≡ code_of (answer_of c p)) × (p ≡ place_of (answer_of c p))
  pub run : (s : Start) (out : List ℕ) (l : Left) → RunCall (s, out) l → length out ≡ 5 → (l.answer ≡ 1) × (l.out ≡ numbers (told l))
  pub alike :
      (s t : Start) (out other : List ℕ) (l m : Left) → in_c.seal s.table Accepted → Agreeing s t → RunCall (s, out) l → RunCall (t, other) m
      → length out ≡ 5 → length other ≡ 5 → l.out ≡ m.out
  pub no_room : (s : Start) (out : List ℕ) (l : Left) → RunCall (s, out) l → (length out ≡ 5 → ⊥) → l ≡ left 0 s.state s.log out

-- ------------------------------------------------------------------------------------------------
-- "Each entry takes every table, state and log that can be lent to it": no contract asks anything

abbrev pub AsksNothing : {L A : Type 0} → (L → A → Type 0) → Type 0
AsksNothing {L} {A} Pre = (κ : L) (a : A) → Pre κ a

-- of every function that is exported to C, and of the code's entries
pub record NothingAsked : Type 0 where
  pub bil_check_code : AsksNothing bil.bil_check_code.Reads.Pre
  pub bil_check_place : AsksNothing bil.bil_check_place.Reads.Pre
  pub bil_seal_code : AsksNothing bil.bil_seal_code.Reads.Pre
  pub bil_seal_place : AsksNothing bil.bil_seal_place.Reads.Pre
  pub bil_word_kind : AsksNothing bil.bil_word_kind.Reads.Pre
  pub bil_word_value : AsksNothing bil.bil_word_value.Reads.Pre
  pub bil_run : AsksNothing bil.bil_run.Reads.Pre
  pub check : AsksNothing verdict.check.Reads.Pre
  pub accepted : AsksNothing verdict.accepted.Reads.Pre
  pub seal-check : AsksNothing verdict.seal_check.Reads.Pre
  pub run : AsksNothing runner.entry.run.Reads.Pre
