-- Programs that a demand shuts out, one for each thing that it names. Each does as the rules say in all else. proofs/Counterexamples.antt
-- proves of each that the demand, by itself, does not hold of it. Assumes nothing.
use Rattle.std.specs.Prelude.{◌≡◌, List, ◌∷◌, reverse, ℕ, suc, ◌+◌, ◌*◌, get_or, set, Ok, Err}
use Rattle.base.specs.declared.codes.Code.TheVariants as Codes
use Rattle.base.specs.Refusals.{Accepted, Refused, Answer, Rule, refusal}
use Rattle.running.specs.declared.Ending.{Ending}
use Rattle.running.specs.declared.Ending.TheVariants as Endings
use Rattle.running.specs.Start.{Start}
use Rattle.running.specs.Result.{Result, result}
use Rattle.typing.specs.Verdict.{check}
use Rattle.sealing.specs.Verdict.{seal_check}
use Rattle.demands.specs.Demands.{Library}

-- ------------------------------------------------------------------------------------------------
-- Demand 1

-- "Each entry takes every table, state and log that can be lent to it, and ends": an entry that gives nothing, whatever is lent
unfoldable pub silent_check : Library
unfolding seal_check result
silent_check = record { check = λ s r. ⊥; seal = λ s r. r ≡ seal_check s; run = λ s r. r ≡ result s }

unfoldable pub silent_seal : Library
unfolding check result
silent_seal = record { check = λ s r. r ≡ check s; seal = λ s r. ⊥; run = λ s r. r ≡ result s }

unfoldable pub silent_run : Library
unfolding check seal_check
silent_run = record { check = λ s r. r ≡ check s; seal = λ s r. r ≡ seal_check s; run = λ s r. ⊥ }

-- "with its place": the right code with a wrong place
unfoldable pub misplaced : Answer → Answer
misplaced (Ok accepted) = Accepted
misplaced (Err e) = Refused e.code (suc e.place)

-- "the first refusal in document 01's order": a later fault is named first
unfoldable pub last_first : List Rule → Answer
unfolding refusal
last_first rules = refusal (reverse rules)

-- "A faulty one is answered by .. refusal": a fault is accepted
unfoldable pub accepting : List ℕ → Answer
accepting s = Accepted

-- and only a faulty one: a good table is refused
unfoldable pub refusing_all : List ℕ → Answer
refusing_all s = Refused Codes.TooShort 0

-- "and the buffers stay unchanged": what else a refusal does
unfoldable pub at_refusal : (Result → Result) → Result → Result
at_refusal change r = elim r.ending [ Endings.Refused e ↦ change r | Endings.Done ↦ r | Endings.Stopped stop place ↦ r ]

-- ------------------------------------------------------------------------------------------------
-- One part of a result changed

unfoldable pub with_ending : Ending → Result → Result
with_ending e r = record { ending = e; ticks = r.ticks; count = r.count; next = r.next; state = r.state; log = r.log }

unfoldable pub with_ticks : ℕ → Result → Result
with_ticks n r = record { ending = r.ending; ticks = n; count = r.count; next = r.next; state = r.state; log = r.log }

unfoldable pub with_count : ℕ → Result → Result
with_count n r = record { ending = r.ending; ticks = r.ticks; count = n; next = r.next; state = r.state; log = r.log }

unfoldable pub with_next : ℕ → Result → Result
with_next n r = record { ending = r.ending; ticks = r.ticks; count = r.count; next = n; state = r.state; log = r.log }

unfoldable pub with_state : List ℕ → Result → Result
with_state σ r = record { ending = r.ending; ticks = r.ticks; count = r.count; next = r.next; state = σ; log = r.log }

unfoldable pub with_log : List ℕ → Result → Result
with_log l r = record { ending = r.ending; ticks = r.ticks; count = r.count; next = r.next; state = r.state; log = l }

-- ------------------------------------------------------------------------------------------------
-- Demands 2 and 3

-- a run that leaves variable x with another pair
unfoldable pub leaving : ℕ → ℕ → ℕ → Start → Result
unfolding with_state result
leaving x kind n s = with_state (set (set s.state (2 * x) kind) (2 * x + 1) n) (result s)

-- the word that a start has in variable 0, which is sealed there
abbrev pub secret : Start → ℕ
secret s = get_or s.state 1 0

-- a run that tells it: n, and what the rules give
unfoldable pub telling : (ℕ → Result → Result) → Start → Result
unfolding result
telling tell s = tell (secret s) (result s)

-- two more entries, of which variable 2 is the chain that starts at the newest
unfoldable pub storing : List ℕ → Result → Result
unfolding with_count with_state with_log
storing numbers r = with_count 3 (with_state (set (set r.state 4 3) 5 3) (with_log (0 ∷ 8 ∷ 5 ∷ 0 ∷ numbers) r))
