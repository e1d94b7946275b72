-- "run gives code, place, ticks, log count, next address", and what each buffer holds then. Assumes nothing.
use Rattle.std.specs.Prelude.{◌≡◌, List, ◌++◌, ℕ, ◌-◌, length, Ok, Err}
use Rattle.base.specs.Codes.{number, stop_number}
use Rattle.base.specs.declared.Refusal.{Refusal}
use Rattle.base.specs.Refusals.{Accepted, Rule, refusal}
use Rattle.table.specs.Decode.{context, program}
use Rattle.typing.specs.Verdict.{check_rules}
use Rattle.memory.specs.Log.{holding}
use Rattle.running.specs.declared.Ending.{Ending}
use Rattle.running.specs.declared.Ending.TheVariants.{Done, Refused, Stopped}
use Rattle.running.specs.Run.{Left, run}
use Rattle.running.specs.Start.{Start, start_rules, room_of, log_of}

pub record Result : Type 0 where
  pub ending : Ending
  pub ticks : ℕ
  pub count : ℕ
  pub next : ℕ
  pub state : List ℕ
  pub log : List ℕ

-- the numbers given back for an ending
unfoldable pub code_of : Ending → ℕ
code_of Done = 0
code_of (Refused refusal) = number refusal.code
code_of (Stopped stop statement) = stop_number stop

unfoldable pub place_of : Ending → ℕ
place_of Done = 0
place_of (Refused refusal) = refusal.place
place_of (Stopped stop statement) = statement

-- "Codes 1 to 18 leave all buffers unchanged, ticks 0, log count and next address as given."
unfoldable pub refused : Start → Refusal → Result
refused s refusal =
    record { ending = Refused refusal; ticks = 0; count = s.count; next = s.next; state = s.state; log = s.log }

unfoldable pub finished : Start → Left → Result
unfolding holding
finished s l =
    record {
      ending = l.ending;
      ticks = s.budget - l.remaining;
      count = length l.log;
      next = l.next;
      state = l.state;
      log = holding s.log l.log;
    }

-- the run of an accepted table from an accepted start
unfoldable pub ran : Start → Result
unfolding finished run context program
ran s = finished s (run (context s.table) (room_of s) s.budget (program s.table) s.state (log_of s) s.next)

-- an accepted table and an accepted start: "run makes 1 to 13 and 16 to 18"
unfoldable pub run_rules : Start → List Rule
unfolding check_rules start_rules
run_rules s = check_rules s.table ++ start_rules s

abbrev pub Accepts : Start → Type 0
Accepts s = refusal (run_rules s) ≡ Accepted

unfoldable pub result : Start → Result
unfolding refusal run_rules refused ran
result s =
    elim (refusal (run_rules s)) [
      | Ok accepted ↦ ran s
      | Err e ↦ refused s e
    ]

-- the start that a caller has after a run, with the numbers and buffers given back
unfoldable pub next_start : Start → Result → ℕ → Start
next_start s r budget = record { table = s.table; state = r.state; log = r.log; count = r.count; next = r.next; budget = budget }
