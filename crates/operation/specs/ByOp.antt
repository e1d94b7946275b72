-- The value that a record gives to its expression, by its op and the values of its operands in the order of their evaluation, and what
-- its op asks of them. Assumes nothing.
use Rattle.std.specs.Prelude.{◌≡◌, List, [], ◌∷◌, ℕ, ◌+◌, ◌≤◌, eqb, Option, Some, None}
use Rattle.base.specs.Numbered.{numbered}
use Rattle.word.specs.Words.{Width}
use Rattle.word.specs.Subs as Subs
use Rattle.value.specs.declared.ValueType.TheVariants.{Imm}
use Rattle.value.specs.declared.Value.{Value}
use Rattle.value.specs.declared.Value.TheVariants.{Word, Unknown}
use Rattle.value.specs.Values as Values
use Rattle.value.specs.Values.{Sound, type_of, size}
use Rattle.table.specs.declared.Node.{Node}
use Rattle.table.specs.Fields.{word_value}
use Rattle.table.specs.Decode.{Context, unknown_type}
use Rattle.table.specs.Asked.{SizeOk}
use Rattle.memory.specs.Log.{Log}
use Rattle.memory.specs.Access as Access
use Rattle.evaluation.specs.State.{in_state}
use Rattle.evaluation.specs.Evaluation.{Evaluated, value, after_store, Binding, look}
use Rattle.logs.specs.Held.{Addressed}

-- what no accepted table has
abbrev pub no_value : Value
no_value = Unknown (Imm 1)

-- ------------------------------------------------------------------------------------------------
-- No operand

unfoldable pub leaves : List (ℕ × (Context → List ℕ → Node → List Binding → Option Value))
unfolding look in_state
leaves =
    (1, λ Γ σ r ρ. Some (look ρ (in_state σ (Γ.type r.a) r.a) r.a))
    ∷ (2, λ Γ σ r ρ. Some (Word r.p (word_value r)))
    ∷ (9, λ Γ σ r ρ. Some (Unknown (unknown_type r)))
    ∷ []

-- the value where there is no operand, else nothing as yet
unfoldable pub at_once : Context → List ℕ → Node → List Binding → Option Value
unfolding leaves
at_once Γ σ r ρ = numbered (λ Γ σ r ρ. None) leaves r.op Γ σ r ρ

abbrev pub value_in : Option Value → Value
value_in (Some v) = v
value_in None = no_value

unfoldable pub leaf_value : Context → List ℕ → Node → List Binding → Value
unfolding at_once
leaf_value Γ σ r ρ = value_in (at_once Γ σ r ρ)

-- ------------------------------------------------------------------------------------------------
-- One

unfoldable pub ones : List (ℕ × (Node → Value → Value))
ones =
    (6, λ r x. Values.unary r.sub x)
    ∷ (7, λ r x. Values.cast r.sub r.p x)
    ∷ (11, λ r x. Values.extract r.p r.q x)
    ∷ []

unfoldable pub one_value : Node → Value → Value
unfolding ones
one_value r x = numbered (λ r x. no_value) ones r.op r x

pub record OneFits (r : Node) (x : Value) : Type 0 where
  pub sound : Sound x
  pub width : r.op ≡ 7 → Width r.p
  pub cast : r.op ≡ 7 → Subs.CastFits r.sub (size (type_of x)) r.p
  pub ordered : r.op ≡ 11 → r.q ≤ r.p
  pub few : r.op ≡ 11 → r.p ≤ r.q + 63

-- ------------------------------------------------------------------------------------------------
-- Two: x was evaluated before y

unfoldable pub twos : List (ℕ × (Log → Node → Value → Value → Value))
unfolding Access.load
twos =
    (3, λ L r x y. Access.load L r.p (eqb r.q 1) y x)
    ∷ (5, λ L r x y. Values.binary r.sub x y)
    ∷ (12, λ L r x y. Values.concat x y)
    ∷ []

unfoldable pub two_value : Log → Node → Value → Value → Value
unfolding twos
two_value L r x y = numbered (λ L r x y. no_value) twos r.op L r x y

pub record TwoFits (L : Log) (r : Node) (x y : Value) : Type 0 where
  pub first : Sound x
  pub second : Sound y
  pub sized : r.op ≡ 3 → SizeOk r.p
  pub addressed : r.op ≡ 3 → Addressed L y x
  pub same : r.op ≡ 5 → type_of x ≡ type_of y
  pub joined : r.op ≡ 12 → size (type_of x) + size (type_of y) ≤ 64

-- ------------------------------------------------------------------------------------------------
-- Three: x was evaluated before y, y before z

unfoldable pub threes : List (ℕ × (ℕ → Log → Node → Value → Value → Value → Evaluated))
unfolding Access.store after_store
threes =
    (4, λ room L r x y z. after_store (Access.store room L r.p (eqb r.q 1) z y x))
    ∷ (10, λ room L r x y z. value (Values.choose z y x) L)
    ∷ []

unfoldable pub three_value : ℕ → Log → Node → Value → Value → Value → Evaluated
unfolding threes
three_value room L r x y z = numbered (λ room L r x y z. value no_value L) threes r.op room L r x y z

pub record ThreeFits (L : Log) (r : Node) (x y z : Value) : Type 0 where
  pub first : Sound x
  pub second : Sound y
  pub sized : r.op ≡ 4 → SizeOk r.p
  pub addressed : r.op ≡ 4 → Addressed L z y
  pub same : r.op ≡ 10 → type_of y ≡ type_of x
