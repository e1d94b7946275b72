-- Demand 3 over the definitions. Assumes nothing.
use mathlib.Core.Path.{◌≡◌, sym, ap₂, ◌∙◌}
use mathlib.Core.List.{List, []}
use Prim.Native.Nat.{ℕ, ◌-◌}
use Rattle.table.specs.Bytes.{header}
use Rattle.table.specs.Decode.{context, program}
use Rattle.sealing.specs.Sealing.{Clean}
use Rattle.memory.proofs.LogLaws.{length-entries, entries_holding}
use Rattle.running.specs.Run.{Left, run}
use Rattle.running.specs.Start.{Start, room_of, log_of}
use Rattle.running.specs.Result.{result, ran, finished}
use Rattle.running.proofs.StartLaws.{state_length, heads_below, result_ran}
use Rattle.secrecy.specs.Agreement.{Agreeing, SameResult}
use Rattle.secrecy.proofs.Worlds.{World, agrees_world, world_agrees}
use Rattle.secrecy.proofs.Runs.{SameLeft, run_agrees}

-- the run of a start
abbrev left_by : Start → Left
left_by s = run (context s.table) (room_of s) s.budget (program s.table) s.state (log_of s) s.next

start_world : (s t : Start) → Agreeing s t
    → World (context s.table) (header s.table).variables s.state t.state [] [] (log_of s) (log_of t)
start_world s t A =
    agrees_world (context s.table) (header s.table).variables s.state t.state (log_of s) (log_of t)
    (length-entries s.log s.count ∙ A.count ∙ sym (length-entries t.log t.count))
    (state_length s A.accepted)
    (rw A.table (state_length t A.accepted'))
    (λ x. heads_below s A.accepted _ x)
    (λ x. heads_below t A.accepted' _ x)
    A.values

left_agrees : (s t : Start) → Agreeing s t → Clean (context s.table) (program s.table)
    → SameLeft (context s.table) (header s.table).variables (left_by s) (left_by t)
left_agrees s t A clean =
    rw (← A.table, ← A.budget, ← A.next, ← A.room)
    (run_agrees (header s.table).variables (room_of s) s.budget clean s.next (start_world s t A))

finished_agrees : (table : List ℕ) (s t : Start) (l m : Left) → s.budget ≡ t.budget → SameLeft (context table) (header table).variables l m
    → SameResult table (finished s l) (finished t m)
unfolding finished
finished_agrees table s t l m budget e =
    record {
      ending = e.ending;
      ticks = ap₂ ◌-◌ budget e.remaining;
      next = e.next;
      count = e.world.counts;
      values = rw (entries_holding s.log l.log, entries_holding t.log m.log) (world_agrees e.world);
    }

-- Demand 3 of what the rules give (docs/ORDER.md has its words), for every budget, stops included.
pub demand_3_over_rules : (s t : Start) → Agreeing s t → Clean (context s.table) (program s.table) → SameResult s.table (result s) (result t)
unfolding ran
demand_3_over_rules s t A clean =
    rw (result_ran s A.accepted, result_ran t A.accepted')
    (finished_agrees s.table s t (left_by s) (left_by t) A.budget (left_agrees s t A clean))
