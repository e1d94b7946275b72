-- Demand 3 at work: pairs of accepted starts of clean tables, each of which the demand must speak of. One that spoke of fewer starts, of
-- equal logs or of empty ones, would leave a pair out. Assumes nothing.
use Rattle.std.specs.Prelude.{◌≡◌, refl, false, List, [], ◌∷◌, ◌++◌, ℕ, zero, suc, ◌<◌}
use Rattle.std.proofs.Common.{sym, true≢false, arith}
use Rattle.base.specs.Refusals.{Accepted}
use Rattle.table.specs.Decode.{context}
use Rattle.table.proofs.Assembler.{assembled, immediate, memory, sealed, var, word, load, store, move}
use Rattle.sealing.specs.Verdict.{seal_check}
use Rattle.evaluation.specs.State.{in_state}
use Rattle.memory.specs.Log.{Log, entries}
use Rattle.running.specs.Start.{Start, log_of}
use Rattle.running.specs.Result.{result}
use Rattle.secrecy.specs.Agreement.{Agree, Agreeing, SameResult, content}
use Rattle.demands.specs.Demands.{rules}
use Rattle.demands.proofs.Theorems.{demand_3, rules_give}

-- ------------------------------------------------------------------------------------------------
-- "which agree in the value of each open variable and may differ in every sealed one": a sealed byte

-- a sealed memory, a sealed byte and an open one; the sealed byte is stored at address 5 of the memory, and the open one becomes 1
unfoldable pub table : List ℕ
unfolding assembled
table =
    assembled 8 (sealed (memory 8) ∷ sealed (immediate 8) ∷ immediate 8 ∷ [])
    (var 1 ∷ word 8 5 ∷ var 0 ∷ store 8 0 2 1 0 ∷ word 8 1 ∷ [])
    (move 0 3 ∷ move 2 4 ∷ [])

-- a start in which the sealed byte is n and the open one absent (0) or unknown (2)
unfoldable pub start : ℕ → ℕ → ℕ → Start
unfolding table
start n kind budget =
    record { table = table; state = 0 ∷ 0 ∷ 1 ∷ n ∷ kind ∷ 0 ∷ []; log = 0 ∷ 0 ∷ 0 ∷ 0 ∷ []; count = 0; next = 0; budget = budget }

pub clean : seal_check table ≡ Accepted
unfolding seal_check table
clean = refl

-- two states agree in the value of each open variable where they agree in the one that there is
one_open :
    (L : Log) (σ τ : List ℕ) → content L (in_state σ ((context table).type 2) 2) ≡ content L (in_state τ ((context table).type 2) 2)
    → Agree (context table) 3 L L σ τ
unfolding table context
one_open L σ τ e zero h o = absurd (true≢false o)
one_open L σ τ e (suc zero) h o = absurd (true≢false o)
one_open L σ τ e (suc (suc zero)) h o = e
one_open L σ τ e (suc (suc (suc x))) h o = absurd (omega arith)

pub agreeing : Agreeing (start 3 0 9) (start 9 0 9)
unfolding start table context content result
agreeing =
    record {
      accepted = refl;
      accepted' = refl;
      table = refl;
      budget = refl;
      next = refl;
      room = refl;
      count = refl;
      values = one_open [] (start 3 0 9).state (start 9 0 9).state refl;
    }

-- so demand 3 speaks of them
pub same : SameResult table (result (start 3 0 9)) (result (start 9 0 9))
unfolding start
same = demand_3 rules rules_give (start 3 0 9) (start 9 0 9) _ _ (sym clean) agreeing refl refl

-- though the logs that they leave differ in the sealed byte
pub kept : ((result (start 3 0 9)).log ≡ 0 ∷ 8 ∷ 5 ∷ 3 ∷ []) × ((result (start 9 0 9)).log ≡ 0 ∷ 8 ∷ 5 ∷ 9 ∷ [])
unfolding result start
kept = (refl, refl)

-- what is sealed may be of another kind too: in one start the sealed memory has a store and the sealed byte is absent, in the other the memory
-- is absent and the byte is a word
unfoldable pub kinds : List ℕ → Start
unfolding table
kinds sealed = record { table = table; state = sealed ++ (0 ∷ 0 ∷ []); log = 0 ∷ 8 ∷ 1 ∷ 7 ∷ 0 ∷ 0 ∷ 0 ∷ 0 ∷ []; count = 1; next = 255; budget = 9 }

pub kinds_agree : Agreeing (kinds (3 ∷ 1 ∷ 0 ∷ 0 ∷ [])) (kinds (0 ∷ 0 ∷ 1 ∷ 9 ∷ []))
unfolding kinds table context content result entries
kinds_agree =
    record {
      accepted = refl;
      accepted' = refl;
      table = refl;
      budget = refl;
      next = refl;
      room = refl;
      count = refl;
      values = one_open (entries (0 ∷ 8 ∷ 1 ∷ 7 ∷ []) 1) (3 ∷ 1 ∷ 0 ∷ 0 ∷ 0 ∷ 0 ∷ []) (0 ∷ 0 ∷ 1 ∷ 9 ∷ 0 ∷ 0 ∷ []) refl;
    }

pub kinds_same : SameResult table (result (kinds (3 ∷ 1 ∷ 0 ∷ 0 ∷ []))) (result (kinds (0 ∷ 0 ∷ 1 ∷ 9 ∷ [])))
unfolding kinds
kinds_same = demand_3 rules rules_give (kinds (3 ∷ 1 ∷ 0 ∷ 0 ∷ [])) (kinds (0 ∷ 0 ∷ 1 ∷ 9 ∷ [])) _ _ (sym clean) kinds_agree refl refl

-- ------------------------------------------------------------------------------------------------
-- "A memory's value is its stores, newest first": other log buffers and other heads, with entries in both logs, and a sealed memory that
-- both runs store to

-- a sealed memory, an open one, a sealed byte and an open one. The sealed byte is stored at 5 of the sealed memory, 7 at 6 of the open
-- one, and the open byte is what the open memory has at 9.
unfoldable pub heads : List ℕ
unfolding assembled
heads =
    assembled 8 (sealed (memory 8) ∷ memory 8 ∷ sealed (immediate 8) ∷ immediate 8 ∷ [])
    (var 2 ∷ word 8 5 ∷ var 0 ∷ store 8 0 2 1 0 ∷ word 8 7 ∷ word 8 6 ∷ var 1 ∷ store 8 0 6 5 4 ∷ word 8 9 ∷ var 1 ∷ load 8 0 9 8 ∷ [])
    (move 0 3 ∷ move 1 7 ∷ move 3 10 ∷ [])

-- the open memory's store is entry 1, the sealed one's entry 2
unfoldable pub open_first : Start
unfolding heads
open_first =
    record {
      table = heads;
      state = 3 ∷ 2 ∷ 3 ∷ 1 ∷ 1 ∷ 3 ∷ 0 ∷ 0 ∷ [];
      log = 0 ∷ 8 ∷ 9 ∷ 17 ∷ 0 ∷ 8 ∷ 1 ∷ 34 ∷ 0 ∷ 0 ∷ 0 ∷ 0 ∷ 0 ∷ 0 ∷ 0 ∷ 0 ∷ [];
      count = 2;
      next = 4;
      budget = 9;
    }

-- the other way round, and other numbers beyond the count
unfoldable pub sealed_first : Start
unfolding heads
sealed_first =
    record {
      table = heads;
      state = 3 ∷ 1 ∷ 3 ∷ 2 ∷ 1 ∷ 9 ∷ 0 ∷ 0 ∷ [];
      log = 0 ∷ 8 ∷ 1 ∷ 51 ∷ 0 ∷ 8 ∷ 9 ∷ 17 ∷ 7 ∷ 7 ∷ 7 ∷ 7 ∷ 7 ∷ 7 ∷ 7 ∷ 7 ∷ [];
      count = 2;
      next = 4;
      budget = 9;
    }

pub heads_clean : seal_check heads ≡ Accepted
unfolding seal_check heads
heads_clean = refl

pub heads_agree : Agreeing open_first sealed_first
unfolding open_first sealed_first heads context content result entries
heads_agree =
    record {
      accepted = refl;
      accepted' = refl;
      table = refl;
      budget = refl;
      next = refl;
      room = refl;
      count = refl;
      values = values;
    }
  where
    values : (x : ℕ) → x < 4 → (context heads).sealed x ≡ false
        → content (log_of open_first) (in_state open_first.state ((context heads).type x) x) ≡ content (log_of sealed_first) (in_state sealed_first.state ((context heads).type x) x)
    values zero h o = absurd (true≢false o)
    values (suc zero) h o = refl
    values (suc (suc zero)) h o = absurd (true≢false o)
    values (suc (suc (suc zero))) h o = refl
    values (suc (suc (suc (suc x)))) h o = absurd (omega arith)

pub heads_same : SameResult heads (result open_first) (result sealed_first)
unfolding open_first
heads_same = demand_3 rules rules_give open_first sealed_first _ _ (sym heads_clean) heads_agree refl refl

-- the open byte is 17 in both, though the open memory's chain goes on at entry 1 in one and at 2 in the other
pub heads_left :
    ((result open_first).state ≡ 3 ∷ 3 ∷ 3 ∷ 4 ∷ 1 ∷ 3 ∷ 1 ∷ 17 ∷ [])
    × ((result open_first).log ≡ 0 ∷ 8 ∷ 9 ∷ 17 ∷ 0 ∷ 8 ∷ 1 ∷ 34 ∷ 2 ∷ 8 ∷ 5 ∷ 3 ∷ 1 ∷ 8 ∷ 6 ∷ 7 ∷ [])
    × ((result sealed_first).state ≡ 3 ∷ 3 ∷ 3 ∷ 4 ∷ 1 ∷ 9 ∷ 1 ∷ 17 ∷ [])
    × ((result sealed_first).log ≡ 0 ∷ 8 ∷ 1 ∷ 51 ∷ 0 ∷ 8 ∷ 9 ∷ 17 ∷ 1 ∷ 8 ∷ 5 ∷ 9 ∷ 2 ∷ 8 ∷ 6 ∷ 7 ∷ [])
unfolding result open_first sealed_first heads
heads_left = (refl, refl, refl, refl)

-- ------------------------------------------------------------------------------------------------
-- "an absent variable's is unknown": the open byte is absent in one start and unknown in the other, and the one tick doesn't come to it

pub lost_agree : Agreeing (start 3 0 1) (start 3 2 1)
unfolding start table context content result
lost_agree =
    record {
      accepted = refl;
      accepted' = refl;
      table = refl;
      budget = refl;
      next = refl;
      room = refl;
      count = refl;
      values = one_open [] (start 3 0 1).state (start 3 2 1).state refl;
    }

pub lost_same : SameResult table (result (start 3 0 1)) (result (start 3 2 1))
unfolding start
lost_same = demand_3 rules rules_give (start 3 0 1) (start 3 2 1) _ _ (sym clean) lost_agree refl refl
