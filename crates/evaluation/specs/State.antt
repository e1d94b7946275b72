-- "State: two 64-bit numbers a variable." Assumes nothing.
use Rattle.std.specs.Prelude.{List, [], ◌∷◌, ℕ, ◌+◌, ◌*◌, get_or, set}
use Rattle.base.specs.Numbered.{numbered}
use Rattle.value.specs.declared.ValueType.{ValueType}
use Rattle.value.specs.declared.Value.{Value}
use Rattle.value.specs.declared.Value.TheVariants.{Word, Unknown, Memory}
use Rattle.value.specs.Values.{size}

-- "0,0 absent; 1,word ..; 2,0 unknown; 3,head": the value of a pair, for a variable of a type. "An absent variable reads as unknown."
unfoldable pub value_of : ValueType → ℕ → ℕ → Value
value_of t kind n = numbered (Unknown t) ((1, Word (size t) n) ∷ (3, Memory (size t) n) ∷ []) kind

unfoldable pub kind_of : Value → ℕ
kind_of (Word w v) = 1
kind_of (Unknown t) = 2
kind_of (Memory w head) = 3

unfoldable pub number_of : Value → ℕ
number_of (Word w v) = v
number_of (Unknown t) = 0
number_of (Memory w head) = head

-- the value of variable x, of a type
unfoldable pub in_state : List ℕ → ValueType → ℕ → Value
unfolding value_of
in_state σ t x = value_of t (get_or σ (2 * x) 0) (get_or σ (2 * x + 1) 0)

-- the state in which variable x has a value
unfoldable pub moved : List ℕ → ℕ → Value → List ℕ
unfolding kind_of number_of
moved σ x v = set (set σ (2 * x) (kind_of v)) (2 * x + 1) (number_of v)
