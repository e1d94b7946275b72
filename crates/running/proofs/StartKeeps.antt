-- An accepted start of a checked table ends as an accepted start, whatever the budget and the stop, and every variable has its type then.
-- Assumes nothing.
use mathlib.Core.Path.{◌≡◌, refl}
use mathlib.Core.Bool.{true, and-eq-true_iff}
use mathlib.Core.List.{List}
use mathlib.Core.Logic.{◌↔◌}
use Prim.Native.Nat.{ℕ, zero, suc, ◌+◌, ◌*◌, ◌%◌, ◌^◌, ◌≤◌, ◌<◌}
use native.Mathlib.Omega.{arith}
use lib.Dec.{leb, eqb}
use lib.ListN.{length, get_or}
use borrow.Author.Tests.{leb-true, ltb-true, eqb-true, le-leb, lt-ltb, eq-eqb}
use Rattle.base.specs.Refusals.{HoldsBelow, AllHold, no_rule, one_more}
use Rattle.table.specs.Bytes.{header, variable}
use Rattle.table.specs.Records.{variable_ok}
use Rattle.table.specs.Decode.{context, expr, program}
use Rattle.table.proofs.View.{View, Reads}
use Rattle.typing.specs.Typing.{Ok}
use Rattle.memory.specs.Log.{Log, entry_size, entries, holding, newest_ok}
use Rattle.memory.proofs.LogLaws.{length-entries, entries_holding, length-holding}
use Rattle.memory.proofs.LogRules.{entries_ok, entries_rules}
use Rattle.memory.specs.Typed.{Has}
use Rattle.evaluation.specs.State.{in_state}
use Rattle.evaluation.proofs.Formed.{formed_block}
use Rattle.running.specs.Run.{Left, run}
use Rattle.running.specs.Start.{Start, most_entries, room_of, log_of, numbers_ok, pair_ok, start_rules}
use Rattle.running.specs.Result.{ran, finished, next_start}
use Rattle.running.proofs.PairLaws.{declared, pair, pair-ok, state_fits}
use Rattle.running.specs.Standing.{Stands}
use Rattle.running.proofs.RunKeeps.{Kept, run_keeps}

-- ------------------------------------------------------------------------------------------------
-- Checked tables and accepted starts

-- what refusals 5 to 13 leave of a table
pub record Checked (s : List ℕ) : Type 0 where
  pub variables : (x : ℕ) → x < (header s).variables → variable_ok (variable s x) ≡ true
  pub views : (i : ℕ) → i < (header s).expressions → View s i (expr s i)
  pub reads : Reads s 0 (header s).statements (program s)
  pub typed : Ok (context s) (header s).width (program s)

-- what refusals 16 to 18 leave of a start
pub record StartOk (s : Start) : Type 0 where
  pub numbers : HoldsBelow (λ i. get_or (numbers_ok s) i true) 4
  pub log : HoldsBelow (λ n. newest_ok (entries s.log n)) (suc s.count)
  pub pairs :
      HoldsBelow (λ x. pair_ok (log_of s) (variable s.table x) (get_or s.state (2 * x) 0) (get_or s.state (2 * x + 1) 0))
      (header s.table).variables

pub start_ok_iff : (s : Start) → AllHold (start_rules s) ↔ StartOk s
unfolding start_rules
start_ok_iff s = (to, λ a. one_more a.numbers (one_more a.log (one_more a.pairs no_rule)))
  where
    to : AllHold (start_rules s) → StartOk s
    to (one_more n (one_more l (one_more p no_rule))) = record { numbers = n; log = l; pairs = p }

-- refusal 16 in numbers
pub record Numbers (s : Start) : Type 0 where
  pub state : length s.state ≡ 2 * (header s.table).variables
  pub multiple : length s.log % entry_size ≡ 0
  pub room : room_of s ≤ most_entries
  pub count : s.count ≤ room_of s
  pub next : s.next < 2 ^ (header s.table).width

pub numbers_of : (s : Start) → HoldsBelow (λ i. get_or (numbers_ok s) i true) 4 → Numbers s
unfolding numbers_ok
numbers_of s h =
    let p = (and-eq-true_iff (eqb (length s.log % entry_size) 0) (leb (room_of s) most_entries)).0 (h 1 (omega arith)) in
    record {
      state = eqb-true _ _ (h 0 (omega arith));
      multiple = eqb-true _ _ p.0;
      room = leb-true _ _ p.1;
      count = leb-true _ _ (h 2 (omega arith));
      next = ltb-true _ _ (h 3 (omega arith));
    }

numbers_hold : (s : Start) → Numbers s → HoldsBelow (λ i. get_or (numbers_ok s) i true) 4
unfolding numbers_ok
numbers_hold s n zero h = eq-eqb _ _ n.state
numbers_hold s n (suc zero) h = (and-eq-true_iff _ _).1 (eq-eqb _ _ n.multiple, le-leb _ _ n.room)
numbers_hold s n (suc (suc zero)) h = le-leb _ _ n.count
numbers_hold s n (suc (suc (suc zero))) h = lt-ltb _ _ n.next
numbers_hold s n (suc (suc (suc (suc i)))) h = refl

-- ------------------------------------------------------------------------------------------------
-- The run of an accepted start

pub stands : (s : Start) → StartOk s → Stands s.table (room_of s) s.state (log_of s) s.next
stands s a =
    let n = numbers_of s a.numbers in
    record {
      state = record { size = n.state; pairs = λ x h. pair _ _ _ _ (a.pairs x h) };
      log = record { ok = entries_ok s.log s.count (λ m h. a.log m (omega arith)); most = rw length-entries n.count };
      next = n.next;
    }

-- what the run leaves
abbrev pub run_of : Start → Left
run_of s = run (context s.table) (room_of s) s.budget (program s.table) s.state (log_of s) s.next

-- the log goes on within its room, pairs stay of their variables, the next address is below 2^A, and ticks are not gained
pub start_keeps : (s : Start) → Checked s.table → StartOk s → Kept s.table (room_of s) s.budget (log_of s) (run_of s)
start_keeps s c a =
    run_keeps s.table (λ x h. declared _ (c.variables x h)) (room_of s) s.budget c.typed (formed_block c.views c.reads) (stands s a)

-- ------------------------------------------------------------------------------------------------
-- The next start

-- from what a run leaves
next-start : Start → Left → ℕ → Start
next-start s l budget =
    record { table = s.table; state = l.state; log = holding s.log l.log; count = length l.log; next = l.next; budget = budget }

next_ok :
    (s : Start) (l : Left) {t : ℕ} {L : Log} → StartOk s → Kept s.table (room_of s) t L l → (budget : ℕ) → StartOk (next-start s l budget)
unfolding next-start
next_ok s l a k budget =
    let n = numbers_of s a.numbers in
    let m = k.log.most in
    let size : length (holding s.log l.log) ≡ length s.log = length-holding s.log l.log (omega arith) in
    record {
      numbers =
          numbers_hold (next-start s l budget)
          (record { state = k.state.size; multiple = rw size n.multiple; room = rw size n.room; count = rw size m; next = k.next });
      log = λ i h. entries_rules (holding s.log l.log) (length l.log) i (rw entries_holding k.log.ok) (omega arith);
      pairs = λ x h. rw entries_holding (pair-ok (k.state.pairs x h));
    }

-- an accepted start ends as an accepted start
pub accepted_stays : (s : Start) → Checked s.table → AllHold (start_rules s) → (budget : ℕ) → AllHold (start_rules (next_start s (ran s) budget))
unfolding next_start ran finished next-start
accepted_stays s c a budget =
    let o = (start_ok_iff s).0 a in
    (start_ok_iff (next-start s (run_of s) budget)).1 (next_ok s (run_of s) o (start_keeps s c o) budget)

-- every variable has its declared type at an accepted start
pub start_types :
    (s : Start) → Checked s.table → AllHold (start_rules s) → (x : ℕ) → x < (header s.table).variables
    → Has (log_of s) (in_state s.state ((context s.table).type x) x) ((context s.table).type x)
start_types s c a =
    let h = stands s ((start_ok_iff s).0 a) in
    (state_fits s.table (λ x l. declared _ (c.variables x l)) h.state h.log).state

-- every variable keeps its declared type over a run, at every budget and whatever the stop
pub types_kept :
    (s : Start) → Checked s.table → AllHold (start_rules s) → (budget x : ℕ) → x < (header s.table).variables
    → Has (log_of (next_start s (ran s) budget)) (in_state (ran s).state ((context s.table).type x) x) ((context s.table).type x)
unfolding next_start
types_kept s c a budget x h = start_types (next_start s (ran s) budget) c (accepted_stays s c a budget) x h
