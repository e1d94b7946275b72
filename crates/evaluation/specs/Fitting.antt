-- States and bindings whose values have their variables' types: what evaluation may take for granted. Assumes nothing.
use Rattle.std.specs.Prelude.{List, [], ◌∷◌, ℕ, ◌<◌}
use Rattle.table.specs.Decode.{Context}
use Rattle.memory.specs.Log.{Log}
use Rattle.memory.specs.Room.{InRoom}
use Rattle.memory.specs.Typed.{Has}
use Rattle.evaluation.specs.State.{in_state}
use Rattle.evaluation.specs.Evaluation.{Binding}

-- every binding's value has its variable's type
pub data Bound (Γ : Context) (L : Log) : List Binding → Type 0 where
  outside : Bound Γ L []
  inside : {b : Binding} {ρ : List Binding} → Has L b.bound (Γ.type b.variable) → Bound Γ L ρ → Bound Γ L (b ∷ ρ)

-- the log is in its room, and the first n variables and all bindings have their types
pub record Fits (Γ : Context) (n room : ℕ) (σ : List ℕ) (ρ : List Binding) (L : Log) : Type 0 where
  pub log : InRoom room L
  pub state : (x : ℕ) → x < n → Has L (in_state σ (Γ.type x) x) (Γ.type x)
  pub bindings : Bound Γ L ρ
