-- The run as a call from outside, with whatever is lent: "run gives code, place, ticks, log count, next address". Assumes nothing.
use Rattle.std.specs.Prelude.{List, [], ◌∷◌, ℕ, eqb, length}
use Rattle.std.specs.Prelude.{if◌then◌else◌}
use Rattle.running.specs.Start.{Start}
use Rattle.running.specs.Result.{Result, code_of, place_of, result}

-- what a call leaves: its answer, and the contents of the three buffers that it may write
pub record Left : Type 0 where
  pub answer : ℕ
  pub state : List ℕ
  pub log : List ℕ
  pub out : List ℕ

abbrev pub left : ℕ → List ℕ → List ℕ → List ℕ → Left
left answer state log out = record { answer = answer; state = state; log = log; out = out }

-- the five numbers
abbrev pub numbers : Result → List ℕ
numbers x = code_of x.ending ∷ place_of x.ending ∷ x.ticks ∷ x.count ∷ x.next ∷ []

-- where out has no room for just them nothing is written
abbrev pub call : Start → List ℕ → Left
call s out = let x = result s in if eqb (length out) 5 then left 1 x.state x.log (numbers x) else left 0 s.state s.log out
