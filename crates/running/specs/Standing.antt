-- Where a run stands: what it may take for granted and keeps. Assumes nothing.
use Rattle.std.specs.Prelude.{◌≡◌, List, ℕ, ◌+◌, ◌*◌, ◌^◌, ◌<◌, length, get_or}
use Rattle.table.specs.declared.Variable.{Variable}
use Rattle.table.specs.Bytes.{header, variable}
use Rattle.memory.specs.Log.{Log}
use Rattle.memory.specs.Room.{InRoom}
use Rattle.memory.specs.Typed.{Head}

-- "0,0 absent; 1,word that fits, for an immediate; 2,0 unknown; 3,head, for a memory"; a let variable is absent
pub data Pair (L : Log) (v : Variable) (kind n : ℕ) : Type 0 where
  absent : kind ≡ 0 → n ≡ 0 → Pair L v kind n
  word : v.role ≡ 0 → kind ≡ 1 → v.kind ≡ 1 → n < 2 ^ v.width → Pair L v kind n
  unknown : v.role ≡ 0 → kind ≡ 2 → n ≡ 0 → Pair L v kind n
  memory : v.role ≡ 0 → kind ≡ 3 → v.kind ≡ 2 → Head L v.addressWidth n → Pair L v kind n

-- two numbers a variable of the table, each pair one of its variable
pub record StateOk (s : List ℕ) (L : Log) (σ : List ℕ) : Type 0 where
  pub size : length σ ≡ 2 * (header s).variables
  pub pairs : (x : ℕ) → x < (header s).variables → Pair L (variable s x) (get_or σ (2 * x) 0) (get_or σ (2 * x + 1) 0)

-- where a run stands: its state, log and next address
pub record Stands (s : List ℕ) (room : ℕ) (σ : List ℕ) (L : Log) (a : ℕ) : Type 0 where
  pub state : StateOk s L σ
  pub log : InRoom room L
  pub next : a < 2 ^ (header s).width
