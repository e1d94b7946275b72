-- What is known where a run has ended: the machine has what it left, and another run may start from it. Assumes nothing.
use mathlib.Core.Path.{◌≡◌, refl, sym, ap, subst, ◌∙◌}
use mathlib.Core.List.{List}
use Prim.Native.Nat.{ℕ, suc, ◌≤◌}
use native.Mathlib.Omega.{arith}
use Rattle.std.specs.Prelude.{Result, Ok, Err, ⊤}
use Rattle.base.specs.declared.Refusal.{Refusal}
use Rattle.base.specs.declared.codes.Stop.{Stop}
use Rattle.table.specs.Decode.{Context, context}
use Rattle.table.specs.Syntax.{Block}
use Rattle.memory.specs.Buffer.{held, room_of, Becomes}
use Rattle.logs.proofs.AfterLaws.{becomes_held}
use Rattle.running.specs.declared.Ending.{Ending}
use Rattle.running.specs.declared.Ending.TheVariants.{Refused, Stopped}
use Rattle.running.specs.Run.{Left, left, run}
use Rattle.running.proofs.PairLaws.{declared}
use Rattle.running.specs.Standing.{Stands}
use Rattle.running.proofs.RunKeeps.{Kept, run_keeps}
use Rattle.evaluate.proofs.WentLaws.{Went, went, same_room, over}
use Rattle.effect.specs.declared.Halt.{Halt}
use Rattle.effect.specs.declared.Machine.{Machine}
use Rattle.effect.specs.Leaving.{Running, RunLeaves, ended, runs}
use Rattle.effect.proofs.StandingLaws.{Good}
use Rattle.effect.proofs.LeavingLaws.{stays}
use Rattle.execute.specs.Begun.{Begins}
use Rattle.execute.proofs.ThenLaws.{onward}

-- a run x from machine m with t ticks has ended with r and machine q
pub record Ended (s : List ℕ) (m : Machine) (t : ℕ) (x : Left) (r : Result ⊤ Halt) (q : Machine) : Type 0 where
  pub is : x ≡ left (ended r) q.ticks q.state.now (held q.log.now) q.next
  pub went : Went m.log.now q.log.now
  pub again : Running s q
  pub fewer : q.ticks ≤ t

from_leaves : {s : List ℕ} {m q : Machine} {t : ℕ} {x : Left} {r : Result ⊤ Halt} → Running s m → Kept s (room_of m.log.now) t (held m.log.now) x
    → RunLeaves m x r q → Ended s m t x r q
unfolding left
from_leaves {s} {m} {q} {t} {x} {r} here k leaves =
    let w = went k.grown k.log leaves.log in
    let log = becomes_held leaves.log in
    let less = k.remaining in
    let stands : Stands s (room_of m.log.now) x.state x.log x.next = record { state = k.state; log = k.log; next = k.next } in
    record {
      is = rw (leaves.is, leaves.ticks, leaves.state, log, leaves.next) refl;
      went = w;
      again = record {
        framed = here.framed;
        records = here.records;
        typing = here.typing;
        stands = rw (same_room w, leaves.state, log, leaves.next) stands;
      };
      fewer = rw leaves.ticks less;
    }

pub ends : {s : List ℕ} {m q : Machine} {r : Result ⊤ Halt} (t : ℕ) {b : Block} → Running s m → Good s b → RunLeaves m (runs s m t b) r q
    → Ended s m t (runs s m t b) r q
ends {s} {m} t here good =
    from_leaves here (run_keeps s (λ x h. declared _ (here.records.variables x h)) (room_of m.log.now) t good.typed good.formed here.stands)

-- ------------------------------------------------------------------------------------------------
-- On from there

module _ {s : List ℕ} {m q : Machine} {t : ℕ} {x : Left} (k : Block) where
  -- done: the next block is run from what is there
  pub goes_onward : {u : ⊤} → Ended s m t x (Ok u) q → onward (context s) (room_of m.log.now) x k ≡ runs s q q.ticks k
  unfolding onward left
  goes_onward e =
      ap (λ (x : Left). onward (context s) (room_of m.log.now) x k) e.is
      ∙ ap (λ (room : ℕ). run (context s) room q.ticks k q.state.now (held q.log.now) q.next) (sym (same_room e.went))

  -- not done: the run has ended
  pub halts_onward : {h : Halt} → Ended s m t x (Err h) q → onward (context s) (room_of m.log.now) x k ≡ x
  unfolding onward left
  halts_onward e = ap (λ (x : Left). onward (context s) (room_of m.log.now) x k) e.is ∙ sym e.is

-- an ending after which nothing more is run
pub data Halts (e : Ending) : Type 0 where
  refuses : {refusal : Refusal} → e ≡ Refused refusal → Halts e
  stops : {code : Stop} {place : ℕ} → e ≡ Stopped code place → Halts e

-- whatever left it
pub halts_there : (Γ : Context) (room : ℕ) (x : Left) (k : Block) → Halts x.ending → onward Γ room x k ≡ x
unfolding onward
halts_there Γ room x k (refuses d) = rw d refl
halts_there Γ room x k (stops d) = rw d refl

-- ------------------------------------------------------------------------------------------------
-- A run that began earlier, from machine m₀ with t₀ ticks, and has come to machine m with t

pub record Came (s : List ℕ) (m₀ : Machine) (t₀ : ℕ) (whole : Left) (b : Block) (m : Machine) (t : ℕ) : Type 0 where
  pub running : Running s m
  pub went : Went m₀.log.now m.log.now
  pub fewer : t ≤ t₀
  pub same : whole ≡ runs s m t b
  pub state : m.state.ghost_name ≡ m₀.state.ghost_name
  pub log : m.log.ghost_name ≡ m₀.log.ghost_name

pub came_first : {s : List ℕ} {m : Machine} (t : ℕ) (b : Block) → Running s m → Came s m t (runs s m t b) b m t
came_first t b here = record { running = here; went = stays here; fewer = omega arith; same = refl; state = refl; log = refl }

module _ {s : List ℕ} {m₀ m : Machine} {t₀ t : ℕ} {whole : Left} {b : Block} (c : Came s m₀ t₀ whole b m t) where
  -- what is run from here is what is left of the whole
  pub comes_to_end : {r : Result ⊤ Halt} {q : Machine} → Good s b → RunLeaves m (runs s m t b) r q → RunLeaves m₀ whole r q
  comes_to_end {r} {q} good leaves =
      subst (λ (x : Left). RunLeaves m₀ x r q) (sym c.same)
      (record {
        is = leaves.is;
        ticks = leaves.ticks;
        next = leaves.next;
        state = leaves.state;
        log =
            over c.went
            (run_keeps s (λ x h. declared _ (c.running.records.variables x h)) (room_of m.log.now) t good.typed good.formed c.running.stands).grown
            leaves.log;
        same = leaves.same ∙ c.state;
        same_log = leaves.same_log ∙ c.log;
      })

-- a statement is begun: a tick is charged for it
pub came_begun : {s : List ℕ} {m₀ m q : Machine} {t₀ : ℕ} {whole : Left} {b : Block} → Came s m₀ t₀ whole b m m.ticks → Begins m q
    → Came s m₀ t₀ whole b q (suc q.ticks)
came_begun {s} {m₀} {m} {q} {t₀} {whole} {b} c h =
    let first = c.running in
    let fewer = c.fewer in
    let ticks = h.ticks in
    record {
      running = record { framed = first.framed; records = first.records; typing = first.typing; stands = rw (h.log, h.state, h.next) first.stands };
      went = subst (λ (b : _). Went m₀.log.now b.now) (sym h.log) c.went;
      fewer = omega arith;
      same = c.same ∙ rw (h.log, h.state, h.next, ← h.ticks) refl;
      state = ap (λ (b : _). b.ghost_name) h.state ∙ c.state;
      log = ap (λ (b : _). b.ghost_name) h.log ∙ c.log;
    }

-- ------------------------------------------------------------------------------------------------
-- A machine that a call is given, and the one that it is known from: the same state, log and next address, and as many ticks

same_runs :
    (s : List ℕ) (b : Block) (f : ℕ → ℕ) {m q : Machine} → q.state ≡ m.state → q.log ≡ m.log → q.next ≡ m.next → q.ticks ≡ m.ticks
    → {r : Result ⊤ Halt} {p : Machine} → RunLeaves q (runs s q (f q.ticks) b) r p → RunLeaves m (runs s m (f m.ticks) b) r p
same_runs s b f state log next ticks h = record {
  is = rw (← log, ← state, ← next, ← ticks) h.is;
  ticks = rw (← log, ← state, ← next, ← ticks) h.ticks;
  next = rw (← log, ← state, ← next, ← ticks) h.next;
  state = rw (← log, ← state, ← next, ← ticks) h.state;
  log = rw (← log, ← state, ← next, ← ticks) h.log;
  same = h.same ∙ ap (λ (b : _). b.ghost_name) state;
  same_log = h.same_log ∙ ap (λ (b : _). b.ghost_name) log;
}

module _ (s : List ℕ) {m q : Machine} (state : q.state ≡ m.state) (log : q.log ≡ m.log) (next : q.next ≡ m.next) where
  -- where a run may go on, it may with any ticks
  pub same_but_ticks : Running s m → Running s q
  same_but_ticks here = record { framed = here.framed; records = here.records; typing = here.typing; stands = rw (log, state, next) here.stands }

  module _ (ticks : q.ticks ≡ m.ticks) (b : Block) {r : Result ⊤ Halt} {p : Machine} where
    pub same_ticks : RunLeaves q (runs s q q.ticks b) r p → RunLeaves m (runs s m m.ticks b) r p
    same_ticks = same_runs s b (λ t. t) state log next ticks

    pub same_ticks_begun : RunLeaves q (runs s q (suc q.ticks) b) r p → RunLeaves m (runs s m (suc m.ticks) b) r p
    same_ticks_begun = same_runs s b (λ t. suc t) state log next ticks

-- what a run leaves, in a machine that has the same state, log and next address, and as many ticks
pub leaves_same_ticks : {m q p : Machine} {x : Left} {r : Result ⊤ Halt} → p.state ≡ q.state → p.log ≡ q.log → p.next ≡ q.next → p.ticks ≡ q.ticks
    → RunLeaves m x r q → RunLeaves m x r p
leaves_same_ticks {m} {x = x} state log next ticks h = record {
  is = h.is;
  ticks = ticks ∙ h.ticks;
  next = next ∙ h.next;
  state = ap (λ (b : _). b.now) state ∙ h.state;
  log = subst (λ (b : _). Becomes m.log.now x.log b.now) (sym log) h.log;
  same = ap (λ (b : _). b.ghost_name) state ∙ h.same;
  same_log = ap (λ (b : _). b.ghost_name) log ∙ h.same_log;
}
