-- What the code passes from one function to the next. Assumes nothing.
use Rattle.std.specs.Prelude.{◌≡◌, List, [], ◌∷◌, ℕ, ◌+◌, ◌*◌, ◌≤◌, ◌<◌, eqb, length, get_or}
use Rattle.base.specs.declared.codes.Code.TheVariants as Codes
use Rattle.base.specs.Refusals.{Rule}
use Rattle.forest.specs.declared.operands.Operands.{Operands}
use Rattle.forest.specs.declared.operands.Operands.TheVariants.{Leaf, One, Two, Three}
use Rattle.forest.specs.Forest.{how_often, over}

infixr 4 ◌and◌
-- operands as a list
abbrev pub listed : Operands → List ℕ
listed Leaf = []
listed (One a) = a ∷ []
listed (Two a b) = a ∷ b ∷ []
listed (Three a b c) = a ∷ b ∷ c ∷ []

-- every number of a list is below n
pub data AllBelow (n : ℕ) : List ℕ → Type 0 where
  none : AllBelow n []
  ◌and◌ : {k : ℕ} {ks : List ℕ} → k < n → AllBelow n ks → AllBelow n (k ∷ ks)

-- a number stands in a list
pub record Stands (k : ℕ) (ks : List ℕ) : Type 0 where
  pub counts : 1 ≤ how_often k ks

-- each counter went up by how often its number stands in a list
pub record Counted (before after ks : List ℕ) : Type 0 where
  pub long : length after ≡ length before
  pub each : (k : ℕ) → get_or after k 0 ≡ get_or before k 0 + how_often k ks

-- the operands of n records are counted, by what gives the operands of each: as often as each number stands in the list of all of them,
-- and at most three a record
pub record CountedBy (gives : ℕ → Operands → Type 0) (n : ℕ) (before after : List ℕ) : Type 0 where
  pub all : (named : ℕ → List ℕ) → ((i : ℕ) (o : Operands) → i < n → gives i o → listed o ≡ named i) → Counted before after (over named n)
  pub few : (k : ℕ) → get_or after k 0 ≤ get_or before k 0 + 3 * n

-- no counter is over m
pub record Counters (m : ℕ) (counts : List ℕ) : Type 0 where
  pub each : (k : ℕ) → get_or counts k 0 ≤ m

-- each of the first n counters is 1
abbrev pub count_rule : List ℕ → ℕ → Rule
count_rule counts n = record { code = Codes.Uses; places = n; holds = λ i. eqb (get_or counts i 0) 1 }
