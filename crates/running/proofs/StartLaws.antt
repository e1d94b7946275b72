-- What an accepted start has: two numbers a variable, and heads that are entries of its log. Assumes nothing.
use mathlib.Core.Path.{◌≡◌, refl}
use mathlib.Core.Bool.{Bool, true, false}
use Prim.Native.Nat.{ℕ, ◌+◌, ◌*◌, ◌≤◌}
use native.Mathlib.Omega.{arith}
use lib.Dec.{ltb, lit<}
use lib.ListN.{length, get_or}
use borrow.Author.Tests.{eqb-true, ltb-true, ltb-false}
use Rattle.base.specs.declared.Refusal.{Refusal}
use Rattle.std.specs.Prelude.{Err}
use Rattle.base.specs.Refusals.{AllHold, refusal}
use Rattle.base.proofs.RefusalLaws.{accepted_iff, all_hold_append, first_holds, later_hold}
use Rattle.value.specs.declared.ValueType.{ValueType}
use Rattle.table.specs.declared.Variable.{Variable}
use Rattle.table.specs.Bytes.{header, variable}
use Rattle.typing.specs.Verdict.{check_rules}
use Rattle.memory.specs.Log.{Log}
use Rattle.memory.specs.Access.{head_of}
use Rattle.evaluation.specs.State.{in_state, value_of}
use Rattle.evaluation.proofs.StateLaws.{in_state-past}
use Rattle.running.specs.Standing.{Pair, absent, word, unknown, memory}
use Rattle.running.proofs.PairLaws.{pair}
use Rattle.running.specs.Start.{Start, start_rules, numbers_ok, log_of}
use Rattle.running.specs.Result.{Accepts, run_rules, refused, result, ran}

-- a pair that is allowed has no head, or one that is an entry
pair_head : {L : Log} {v : Variable} {kind n : ℕ} (t : ValueType) → Pair L v kind n → head_of (value_of t kind n) ≤ length L
unfolding value_of head_of
pair_head t (absent k z) = rw k (omega arith)
pair_head t (word r k i f) = rw k (omega arith)
pair_head t (unknown r k z) = rw k (omega arith)
pair_head t (memory r k m h) = rw k h.link.most

-- "Codes 1 to 18 leave all buffers unchanged, ticks 0, log count and next address as given."
pub result_refused : (s : Start) {e : Refusal} → refusal (run_rules s) ≡ Err e → result s ≡ refused s e
unfolding result
result_refused s e = rw (e, result)

module _ (s : Start) (a : Accepts s) where
  pub start_rules-hold : AllHold (start_rules s)
  unfolding run_rules
  start_rules-hold = ((all_hold_append (check_rules s.table) (start_rules s)).0 ((accepted_iff (run_rules s)).0 a)).1

  -- 16, at place 0
  pub state_length : length s.state ≡ 2 * (header s.table).variables
  unfolding start_rules numbers_ok
  state_length =
      eqb-true (length s.state) (2 * (header s.table).variables) (first_holds start_rules-hold 0 (lit< tt))

  -- 18, at each variable
  pub heads_below : (t : ValueType) (x : ℕ) → head_of (in_state s.state t x) ≤ length (log_of s)
  unfolding start_rules in_state head_of
  heads_below t x = go (ltb x (header s.table).variables) refl
    where
      go : (b : Bool) → ltb x (header s.table).variables ≡ b → head_of (in_state s.state t x) ≤ length (log_of s)
      go true e =
          let pairs = first_holds (later_hold (later_hold start_rules-hold)) in
          pair_head t
          (pair (log_of s) (variable s.table x) (get_or s.state (2 * x) 0) (get_or s.state (2 * x + 1) 0)
          (pairs x (ltb-true x (header s.table).variables e)))
      go false e = let l = ltb-false x (header s.table).variables e in rw (in_state-past s.state t x (omega (arith, state_length))) (omega arith)

  -- its result is that of its run
  pub result_ran : result s ≡ ran s
  unfolding result
  result_ran = rw (a, result)
