-- The derived equality of types is the definitions'. Assumes nothing.
use Rattle.std.proofs.Common.{◌≡◌, Bool, true, false, Option, Some, None, refl}
use Rattle.std.specs.Bool.{then_some}
use Rattle.std.specs.Option.{option_eq}
use Rattle.value.specs.declared.ValueType.{ValueType}
use Rattle.value.specs.declared.ValueType.TheVariants.{Imm, Mem}
use Rattle.value.specs.contracts.ValueTypePartialEq.TheImpl as derived
use Rattle.typing.specs.Infer.{same_type, is_type, when}

pub same_type_is : (t u : ValueType) → derived.eq-value.it t u ≡ same_type t u
unfolding same_type
same_type_is (Imm w) (Imm v) = refl
same_type_is (Imm w) (Mem v) = refl
same_type_is (Mem w) (Imm v) = refl
same_type_is (Mem w) (Mem v) = refl

pub is_type_is : (t : ValueType) (o : Option ValueType) → option_eq derived.eq-value.it o (Some t) ≡ is_type t o
unfolding is_type
is_type_is t None = refl
is_type_is t (Some u) = same_type_is u t

-- the type, where a test passes
pub when_is : (b : Bool) (t : ValueType) → then_some b t ≡ when b (Some t)
unfolding when
when_is true t = refl
when_is false t = refl
