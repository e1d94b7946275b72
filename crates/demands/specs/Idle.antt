-- The five idle programs of paper 01's 'How tight the promises are'. Only their runs are told: each may have any verdicts, right ones
-- too. proofs/IdleLaws.antt proves that demand 2 holds of none of them. Assumes nothing.
use Rattle.std.specs.Prelude.{List, ℕ, zero, suc}
use Rattle.base.specs.declared.Refusal.{Refusal}
use Rattle.base.specs.Refusals.{Answer}
use Rattle.running.specs.declared.Ending.TheVariants.{Done}
use Rattle.running.specs.Start.{Start}
use Rattle.running.specs.Result.{Result, refused, result}
use Rattle.demands.specs.Demands.{Library, of_functions}

-- "Budget is 0 to 2^32−1."
abbrev pub most_budget : ℕ
most_budget = 4294967295

-- a start with another budget
unfoldable pub granted : Start → ℕ → Start
granted s budget = record { table = s.table; state = s.state; log = s.log; count = s.count; next = s.next; budget = budget }

-- no tick is none; one is as good as all
unfoldable pub all_from_one : ℕ → ℕ
all_from_one zero = zero
all_from_one (suc n) = most_budget

-- one's answer, place and ticks with the other's buffers
abbrev pub mixed : Result → Result → Result
mixed r q = record { ending = r.ending; ticks = r.ticks; count = q.count; next = q.next; state = q.state; log = q.log }

module _ (check seal : List ℕ → Answer) where
  -- "one that refuses everything", with a code and a place
  unfoldable pub refusing : Refusal → Library
  unfolding refused
  refusing e = of_functions check seal (λ s. refused s e)

  -- "one with a fixed answer"
  unfoldable pub fixed : Result → Library
  fixed r = of_functions check seal (λ s. r)

  -- "one that touches nothing": done, with every number and buffer as it was
  unfoldable pub untouched : Library
  untouched =
      of_functions check seal (λ s. record { ending = Done; ticks = 0; count = s.count; next = s.next; state = s.state; log = s.log })

  -- "one that does all work under the first tick": answer, place and ticks are those of the budget, but where there is a tick at all
  -- the buffers hold already what the largest budget leaves
  unfoldable pub at_once : Library
  unfolding result granted all_from_one
  at_once = of_functions check seal (λ s. mixed (result s) (result (granted s (all_from_one s.budget))))

  -- "one with invented ticks": all else is right
  unfoldable pub inventing : (Start → ℕ) → Library
  unfolding result
  inventing ticks =
      of_functions check seal
      (λ s. let r = result s in record { ending = r.ending; ticks = ticks s; count = r.count; next = r.next; state = r.state; log = r.log })
