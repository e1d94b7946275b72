-- The type of an expression, if it has one. That `infer` finds exactly what the rules of Typing.antt give is proved (`decides`, TypingLaws; stated
-- as `Decided` with the demands), so it needs no belief. Assumes nothing.
use Rattle.std.specs.Prelude.{Bool, true, false, ◌&&◌, ℕ, ◌+◌, ◌-◌, leb, eqb, Option, Some, None, is_some}
use Rattle.std.specs.Prelude.{if◌then◌else◌}
use Rattle.value.specs.declared.ValueType.{ValueType}
use Rattle.value.specs.declared.ValueType.TheVariants.{Imm, Mem}
use Rattle.word.specs.Subs.{binary_width}
use Rattle.table.specs.Decode.{Context}
use Rattle.table.specs.Syntax as S
use Rattle.table.specs.Syntax.{Expr}

-- the width of an immediate, for what goes on with it
unfoldable pub immediate : Option ValueType → (ℕ → Option ValueType) → Option ValueType
immediate None f = None
immediate (Some (Imm w)) f = f w
immediate (Some (Mem w)) f = None

-- the address width of a memory
unfoldable pub memory : Option ValueType → (ℕ → Option ValueType) → Option ValueType
memory None f = None
memory (Some (Imm w)) f = None
memory (Some (Mem w)) f = f w

-- what follows where a test passes
unfoldable pub when : Bool → Option ValueType → Option ValueType
when true o = o
when false o = None

unfoldable pub same_type : ValueType → ValueType → Bool
same_type (Imm w) (Imm v) = eqb w v
same_type (Imm w) (Mem v) = false
same_type (Mem w) (Imm v) = false
same_type (Mem w) (Mem v) = eqb w v

unfoldable pub is_type : ValueType → Option ValueType → Bool
unfolding same_type
is_type t None = false
is_type t (Some u) = same_type u t

unfoldable pub has_type : Option ValueType → Bool
has_type = is_some

unfoldable pub both_types : Option ValueType → Option ValueType → Option ValueType
unfolding same_type when
both_types None o = None
both_types (Some t) None = None
both_types (Some t) (Some u) = when (same_type t u) (Some t)

-- What each op makes of the types of its operands. "A load's address has the memory's address width, and a store's value has the
-- size named."
unfoldable pub load_type : ℕ → Option ValueType → Option ValueType → Option ValueType
unfolding memory when is_type
load_type z m e = memory m λ a. when (is_type (Imm a) e) (Some (Imm z))

unfoldable pub store_type : ℕ → Option ValueType → Option ValueType → Option ValueType → Option ValueType
unfolding memory when is_type
store_type z m e v = memory m λ a. when (is_type (Imm a) e && is_type (Imm z) v) (Some (Mem a))

-- "Binary operands have equal widths; subs 14 to 19 give 1 bit."
unfoldable pub binary_type : ℕ → Option ValueType → Option ValueType → Option ValueType
unfolding immediate when is_type
binary_type sub e f = immediate e λ w. when (is_type (Imm w) f) (Some (Imm (binary_width sub w)))

unfoldable pub unary_type : Option ValueType → Option ValueType
unfolding immediate
unary_type e = immediate e λ w. Some (Imm w)

-- "Low and high don't widen, signed and unsigned don't narrow."
unfoldable pub may_cast : ℕ → ℕ → ℕ → Bool
may_cast sub w p = if leb sub 2 then leb p w else leb w p

unfoldable pub cast_type : ℕ → ℕ → Option ValueType → Option ValueType
unfolding immediate when may_cast
cast_type sub p e = immediate e λ w. when (may_cast sub w p) (Some (Imm p))

-- "A let's bound expression has the variable's type."
unfoldable pub let_type : ValueType → Option ValueType → Option ValueType → Option ValueType
unfolding when is_type
let_type t e f = when (is_type t e) f

-- "An ite has a 1-bit condition and branches of one type, memory allowed."
unfoldable pub ite_type : Option ValueType → Option ValueType → Option ValueType → Option ValueType
unfolding when is_type both_types
ite_type c e f = when (is_type (Imm 1) c) (both_types e f)

unfoldable pub extract_type : ℕ → ℕ → Option ValueType → Option ValueType
unfolding immediate
extract_type p q e = immediate e λ w. Some (Imm (p - q + 1))

-- "A concat is at most 64 bits."
unfoldable pub concat_type : Option ValueType → Option ValueType → Option ValueType
unfolding immediate when
concat_type e f = immediate e λ w. immediate f λ v. when (leb (w + v) 64) (Some (Imm (w + v)))

unfoldable pub infer : Context → Expr → Option ValueType
unfolding load_type store_type binary_type unary_type cast_type let_type ite_type extract_type concat_type
infer Γ (S.var x) = Some (Γ.type x)
infer Γ (S.word w v) = Some (Imm w)
infer Γ (S.load z big m e) = load_type z (infer Γ m) (infer Γ e)
infer Γ (S.store z big m e v) = store_type z (infer Γ m) (infer Γ e) (infer Γ v)
infer Γ (S.binary sub e f) = binary_type sub (infer Γ e) (infer Γ f)
infer Γ (S.unary sub e) = unary_type (infer Γ e)
infer Γ (S.cast sub p e) = cast_type sub p (infer Γ e)
infer Γ (S.lets x e f) = let_type (Γ.type x) (infer Γ e) (infer Γ f)
infer Γ (S.unknown t) = Some t
infer Γ (S.ite c e f) = ite_type (infer Γ c) (infer Γ e) (infer Γ f)
infer Γ (S.extract p q e) = extract_type p q (infer Γ e)
infer Γ (S.concat e f) = concat_type (infer Γ e) (infer Γ f)
infer Γ S.bad = None
