-- Demand 3: what two starts must share, and what their runs then share. The words quoted are the order's (docs/ORDER.md). Assumes nothing.
use Rattle.std.specs.Prelude.{◌≡◌, false, List, ℕ, ◌<◌}
use Rattle.value.specs.declared.ValueType.{ValueType}
use Rattle.value.specs.declared.Value.{Value}
use Rattle.value.specs.declared.Value.TheVariants.{Word, Unknown, Memory}
use Rattle.table.specs.Bytes.{header}
use Rattle.table.specs.Decode.{Context, context}
use Rattle.memory.specs.Log.{Log, Cell, chain, entries}
use Rattle.evaluation.specs.State.{in_state}
use Rattle.running.specs.Start.{Start, room_of, log_of}
use Rattle.running.specs.Result.{Result, Accepts}

-- ------------------------------------------------------------------------------------------------
-- Values are compared, not pairs

-- What a value says. "A memory's value is its stores, newest first": heads and previous numbers may differ where these lists agree
-- (docs/DECISIONS.md, demand 3).
pub data Content : Type 0 where
  word : ℕ → ℕ → Content
  unknown : ValueType → Content
  memory : ℕ → List Cell → Content

unfoldable pub content : Log → Value → Content
unfolding chain
content L (Word w v) = word w v
content L (Unknown t) = unknown t
content L (Memory w head) = memory w (chain L head)

-- "agree in the value of each open variable": two states with their logs, the variables numbered below n. "an absent variable's is
-- unknown": `in_state` reads it so.
abbrev pub Agree : Context → ℕ → Log → Log → List ℕ → List ℕ → Type 0
Agree Γ n L M σ τ =
    (x : ℕ) → x < n → Γ.sealed x ≡ false → content L (in_state σ (Γ.type x) x) ≡ content M (in_state τ (Γ.type x) x)

-- ------------------------------------------------------------------------------------------------
-- Two starts, two results

-- "Take two accepted starts of it with the same budget, next address, log room and log count, which agree in the value of each open
-- variable and may differ in every sealed one."
pub record Agreeing (s t : Start) : Type 0 where
  pub accepted : Accepts s
  pub accepted' : Accepts t
  pub table : s.table ≡ t.table
  pub budget : s.budget ≡ t.budget
  pub next : s.next ≡ t.next
  pub room : room_of s ≡ room_of t
  pub count : s.count ≡ t.count
  pub values : Agree (context s.table) (header s.table).variables (log_of s) (log_of t) s.state t.state

-- "Both runs give the same answer, place, tick count, next address and log count, and the same final value of each open variable."
-- Entries that no open head reaches may differ.
pub record SameResult (table : List ℕ) (r q : Result) : Type 0 where
  pub ending : r.ending ≡ q.ending  -- answer and place
  pub ticks : r.ticks ≡ q.ticks
  pub next : r.next ≡ q.next
  pub count : r.count ≡ q.count
  pub values :
      Agree (context table) (header table).variables (entries r.log r.count) (entries q.log q.count) r.state q.state
