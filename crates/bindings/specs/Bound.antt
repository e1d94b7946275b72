-- The list of bindings that the struct stands for. Assumes nothing.
use Rattle.std.specs.Prelude.{◌≡◌, true, false, List, [], ◌∷◌, ℕ, zero, suc, ◌+◌, ◌≤◌, eqb, length, get_or, set, replicate, Option, None, Some}
use Rattle.base.specs.Numbered.{numbered}
use Rattle.value.specs.declared.ValueType.TheVariants.{Imm, Mem}
use Rattle.value.specs.declared.Value.{Value}
use Rattle.value.specs.declared.Value.TheVariants.{Word, Unknown, Memory}
use Rattle.value.specs.Values.{size, type_of}
use Rattle.evaluation.specs.State.{number_of}
use Rattle.evaluation.specs.Evaluation.{Binding, most_bindings}
use Rattle.bindings.specs.declared.Bindings.{Bindings}

-- arrays of 64, and no more bindings than that
pub record Whole (b : Bindings) : Type 0 where
  pub few : b.count ≤ most_bindings
  pub variables : length b.variables ≡ most_bindings
  pub kinds : length b.kinds ≡ most_bindings
  pub widths : length b.widths ≡ most_bindings
  pub numbers : length b.numbers ≡ most_bindings

-- the value of a kind, a width and a number; 1 and 3 are the kinds of a state, unknown has one for each kind of type
unfoldable pub value_held : ℕ → ℕ → ℕ → Value
value_held kind w n = numbered (Unknown (Imm w)) ((1, Word w n) ∷ (3, Memory w n) ∷ (4, Unknown (Mem w)) ∷ []) kind

unfoldable pub kind_held : Value → ℕ
kind_held (Word w v) = 1
kind_held (Unknown (Imm w)) = 2
kind_held (Memory w head) = 3
kind_held (Unknown (Mem w)) = 4

-- the binding at a place
unfoldable pub binding_at : Bindings → ℕ → Binding
unfolding value_held
binding_at b i = record { variable = get_or b.variables i 0; bound = value_held (get_or b.kinds i 0) (get_or b.widths i 0) (get_or b.numbers i 0) }

-- the first n places, the innermost first
unfoldable pub first_bindings : Bindings → ℕ → List Binding
unfolding binding_at
first_bindings b zero = []
first_bindings b (suc n) = binding_at b n ∷ first_bindings b n

-- the bindings in force, the innermost first
unfoldable pub bindings_of : Bindings → List Binding
unfolding first_bindings
bindings_of b = first_bindings b b.count

-- no binding
unfoldable pub none : Bindings
none = record {
  variables = replicate most_bindings 0;
  kinds = replicate most_bindings 0;
  widths = replicate most_bindings 0;
  numbers = replicate most_bindings 0;
  count = 0;
}

-- one binding more; the rest is as it was
unfoldable pub more : Bindings → ℕ → Value → Bindings
unfolding kind_held number_of
more b x v = record {
  variables = set b.variables b.count x;
  kinds = set b.kinds b.count (kind_held v);
  widths = set b.widths b.count (size (type_of v));
  numbers = set b.numbers b.count (number_of v);
  count = b.count + 1;
}

-- the value of a variable's innermost binding
unfoldable pub found : List Binding → ℕ → Option Value
found [] x = None
found (b ∷ outer) x = elim (eqb b.variable x) [ true ↦ Some b.bound | false ↦ found outer x ]
