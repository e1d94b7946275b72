-- An accepted start: what its run may begin with, and what it gives by what the run of the whole block leaves. Assumes nothing.
use mathlib.Core.Path.{◌≡◌, refl, ap, sym, subst, ◌∙◌}
use mathlib.Core.List.{List, ◌++◌}
use Prim.Native.Nat.{ℕ, ◌-◌, ◌≤◌}
use Rattle.std.specs.Prelude.{Result, ⊤}
use Rattle.base.proofs.RefusalLaws.{accepted_iff}
use Rattle.table.specs.declared.Header.{Header}
use Rattle.table.specs.Bytes.{header}
use Rattle.table.specs.Records.{header_rules, record_rules, Framed, RecordsHold}
use Rattle.table.specs.Decode.{block_at, program}
use Rattle.table.proofs.RecordLaws.{read_holds}
use Rattle.table.specs.Asked.{IsBlock}
use Rattle.table.proofs.Nesting.{whole_block}
use Rattle.memory.specs.Log.{holding}
use Rattle.running.specs.Run.{Left}
use Rattle.running.specs.Start.{Start}
use Rattle.running.specs.declared.Ending.{Ending}
use Rattle.running.specs.Result as Outcomes
use Rattle.running.specs.Result.{Accepts, ran, finished, next_start}
use Rattle.running.proofs.StartLaws.{start_rules-hold}
use Rattle.running.proofs.StartKeeps.{StartOk, start_ok_iff, stands, run_of, start_keeps}
use Rattle.running.proofs.AcceptedLaws.{checked, table_ok, next_accepts}
use Rattle.starts.specs.Lent.{lent}
use Rattle.effect.specs.declared.Halt.{Halt}
use Rattle.effect.specs.declared.Machine.{Machine}
use Rattle.effect.specs.Leaving.{Running, RunLeaves, ended, runs}
use Rattle.runner.specs.declared.Outcome.{Outcome}
use Rattle.runner.specs.Given.{Gives}

-- a table that may be read
pub record Read (s : List ℕ) : Type 0 where
  pub framed : Framed s (header s)
  pub records : RecordsHold s

-- the machine that a start makes
pub record Starts (s : Start) (m : Machine) : Type 0 where
  pub state : m.state.now ≡ s.state
  pub log : m.log.now.numbers.now ≡ s.log
  pub count : m.log.now.count ≡ s.count
  pub next : m.next ≡ s.next
  pub ticks : m.ticks ≡ s.budget

pub whole : (s : Start) (h : Header) → h ≡ header s.table → IsBlock s.table 0 h.statements
whole s h is = subst (λ (k : Header). IsBlock s.table 0 k.statements) (sym is) (whole_block s.table)

module _ (s : Start) (a : Accepts s) where
  start_ok : StartOk s
  start_ok = (start_ok_iff s).0 (start_rules-hold s a)

  -- "ticks": no more than the budget
  remaining_most : (run_of s).remaining ≤ s.budget
  remaining_most = (start_keeps s (checked (table_ok s a)) start_ok).remaining

  -- what refusals 1 to 7 leave of the table
  pub read : Read s.table
  read =
      let r = read_holds s.table ((accepted_iff (header_rules s.table ++ record_rules s.table)).1 (table_ok s a).read) in
      record { framed = r.0; records = r.1 }

  module _ {m : Machine} (from : Starts s m) where
    pub running : Running s.table m
    running = record { framed = read.framed; records = read.records; typing = (table_ok s a).types; stands = rw (from.state, from.log, from.count, from.next) (stands s start_ok) }

    -- the whole block, by the header that the code has read
    module _ (h : Header) (is : h ≡ header s.table) where
      is_run : runs s.table m m.ticks (block_at s.table 0 h.statements) ≡ run_of s
      unfolding program
      is_run =
          ap (λ (k : Header). runs s.table m m.ticks (block_at s.table 0 k.statements)) is ∙ rw (from.state, from.log, from.count, from.next, from.ticks) refl

      module _ {r : Result ⊤ Halt} {q : Machine} (p : RunLeaves m (runs s.table m m.ticks (block_at s.table 0 h.statements)) r q) where
        pub ticks_most : q.ticks ≤ s.budget
        ticks_most = rw (p.ticks, is_run) remaining_most

        -- what it gives, ticks counted from the budget
        pub gives_ran : Gives (ran s) (record { ending = ended r; ticks = s.budget - q.ticks; count = q.log.now.count; next = q.next }) q.state.now q.log.now.numbers.now
        unfolding ran finished
        gives_ran =
            let p : RunLeaves m (run_of s) r q = subst (λ (l : Left). RunLeaves m l r q) is_run p in
            record {
              ending = p.is;
              ticks = ap (λ (t : ℕ). s.budget - t) p.ticks;
              count = p.log.count;
              next = p.next;
              state = p.state;
              log = p.log.holds ∙ ap (λ (l : List ℕ). holding l (run_of s).log) from.log;
            }

  -- what is left is an accepted start again
  pub again : {r : Outcome} {σ m : List ℕ} → Gives (ran s) r σ m → (budget : ℕ) → Accepts (lent s.table σ m r.count r.next budget)
  unfolding next_start
  again g budget = rw (g.state, g.log, g.count, g.next) (next_accepts s a budget)

-- the numbers of a run whose buffers are the machine's
pub gives_as : {x : Outcomes.Result} {e f : Ending} {t n a : ℕ} {σ τ l m : List ℕ} → f ≡ e → τ ≡ σ → m ≡ l
    → Gives x (record { ending = e; ticks = t; count = n; next = a }) σ l → Gives x (record { ending = f; ticks = t; count = n; next = a }) τ m
gives_as p q r g = rw (p, q, r) g

-- the same where the ticks are another number with its value
pub gives_ticks : {x : Outcomes.Result} {e f : Ending} {t u n a : ℕ} {σ τ l m : List ℕ} → u ≡ t → f ≡ e → τ ≡ σ → m ≡ l
    → Gives x (record { ending = e; ticks = t; count = n; next = a }) σ l → Gives x (record { ending = f; ticks = u; count = n; next = a }) τ m
gives_ticks o p q r g = rw (o, p, q, r) g
