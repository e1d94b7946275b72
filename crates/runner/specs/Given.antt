-- What an outcome and the buffers after a run are, by the rules' result. Assumes nothing.
use Rattle.std.specs.Prelude.{◌≡◌, List, ℕ}
use Rattle.base.specs.declared.Refusal.{Refusal}
use Rattle.running.specs.declared.Ending.TheVariants.{Refused}
use Rattle.running.specs.Result.{Result}
use Rattle.runner.specs.declared.Outcome.{Outcome}

-- r has the result's numbers, σ and m are its buffers
pub record Gives (x : Result) (r : Outcome) (σ m : List ℕ) : Type 0 where
  pub ending : r.ending ≡ x.ending
  pub ticks : r.ticks ≡ x.ticks
  pub count : r.count ≡ x.count
  pub next : r.next ≡ x.next
  pub state : σ ≡ x.state
  pub log : m ≡ x.log

-- "Codes 1 to 18 leave .. ticks 0, log count and next address as given."
abbrev pub refused_at : Refusal → ℕ → ℕ → Outcome
refused_at refusal count next = record { ending = Refused refusal; ticks = 0; count = count; next = next }
