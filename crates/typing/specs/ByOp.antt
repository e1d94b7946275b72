-- The type that a record gives to its expression, by its op and the types of its operands. Assumes nothing.
use Rattle.std.specs.Prelude.{List, [], ◌∷◌, ℕ, Option, Some, None}
use Rattle.base.specs.Numbered.{numbered}
use Rattle.value.specs.declared.ValueType.{ValueType}
use Rattle.value.specs.declared.ValueType.TheVariants.{Imm}
use Rattle.table.specs.declared.Node.{Node}
use Rattle.table.specs.Decode.{Context, unknown_type}
use Rattle.typing.specs.Infer.{load_type, store_type, binary_type, unary_type, cast_type, let_type, ite_type, extract_type, concat_type}

unfoldable pub leaves : List (ℕ × (Context → Node → Option ValueType))
leaves = (1, λ Γ r. Some (Γ.type r.a)) ∷ (2, λ Γ r. Some (Imm r.p)) ∷ (9, λ Γ r. Some (unknown_type r)) ∷ []

unfoldable pub ones : List (ℕ × (Node → Option ValueType → Option ValueType))
ones = (6, λ r. unary_type) ∷ (7, λ r. cast_type r.sub r.p) ∷ (11, λ r. extract_type r.p r.q) ∷ []

unfoldable pub twos : List (ℕ × (Context → Node → Option ValueType → Option ValueType → Option ValueType))
twos =
    (3, λ Γ r. load_type r.p)
    ∷ (5, λ Γ r. binary_type r.sub)
    ∷ (8, λ Γ r. let_type (Γ.type r.a))
    ∷ (12, λ Γ r. concat_type)
    ∷ []

unfoldable pub threes : List (ℕ × (Node → Option ValueType → Option ValueType → Option ValueType → Option ValueType))
threes = (4, λ r. store_type r.p) ∷ (10, λ r. ite_type) ∷ []

unfoldable pub leaf_type : Context → Node → Option ValueType
unfolding leaves
leaf_type Γ r = numbered (λ Γ r. None) leaves r.op Γ r

unfoldable pub one_type : Node → Option ValueType → Option ValueType
unfolding ones
one_type r e = numbered (λ r e. None) ones r.op r e

unfoldable pub two_type : Context → Node → Option ValueType → Option ValueType → Option ValueType
unfolding twos
two_type Γ r e f = numbered (λ Γ r e f. None) twos r.op Γ r e f

unfoldable pub three_type : Node → Option ValueType → Option ValueType → Option ValueType → Option ValueType
unfolding threes
three_type r e f g = numbered (λ r e f g. None) threes r.op r e f g
