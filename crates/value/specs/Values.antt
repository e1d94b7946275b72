-- Values and the operations on them: "A value is a word, unknown, or a memory. Unknown keeps its type."
-- The names in capitals are rules of 002. Its public copy has lost some of these names (those of the single operations, the unary ones, casts to
-- unknown and high, extract and concat): they are named as their neighbours are (docs/READING.md, 'From 002 to the definitions'). Laws stand in
-- proofs/. Assumes nothing.
use Rattle.std.specs.Prelude.{◌≡◌, ℕ, ◌+◌, ◌-◌, eqb, Option, Some, None, if◌then◌else◌}
use Rattle.word.specs.Words as Words
use Rattle.word.specs.Words.{Width, IsWord}
use Rattle.word.specs.Subs as Subs
use Rattle.value.specs.declared.ValueType.{ValueType}
use Rattle.value.specs.declared.ValueType.TheVariants.{Imm, Mem}
use Rattle.value.specs.declared.Value.{Value}
use Rattle.value.specs.declared.Value.TheVariants.{Word, Unknown, Memory}

-- ------------------------------------------------------------------------------------------------
-- Types of values

-- TWF_IMM, TWF_MEM: "words of 1 to 64 bits", memories of 1 to 64 address bits
abbrev pub TypeOk : ValueType → Type 0
TypeOk (Imm w) = Width w
TypeOk (Mem w) = Width w

-- the bits of an immediate, or of a memory's addresses
abbrev pub size : ValueType → ℕ
size (Imm w) = w
size (Mem w) = w

-- type(v): "Unknown keeps its type."
abbrev pub type_of : Value → ValueType
type_of (Word w a) = Imm w
type_of (Unknown t) = t
type_of (Memory w head) = Mem w

-- the bits of a word; unknown and a memory have none
abbrev pub bits : Value → Option ℕ
bits (Word w a) = Some a
bits (Unknown t) = None
bits (Memory w head) = None

-- a word that fits its width, unknown or a memory of a type that there is
abbrev pub Sound : Value → Type 0
Sound (Word w a) = IsWord w a
Sound (Unknown t) = TypeOk t
Sound (Memory w head) = Width w

-- what an operation on values promises of its result r: it is x, it is sound, and its type is t
pub record Yields (t : ValueType) (x r : Value) : Type 0 where
  pub is : r ≡ x
  pub sound : Sound r
  pub type : type_of r ≡ t

-- a word that was computed, or unknown, as a value of w bits
abbrev pub computed : ℕ → Option ℕ → Value
computed w (Some r) = Word w r
computed w None = Unknown (Imm w)

-- ------------------------------------------------------------------------------------------------
-- "If any operand of ops 5, 6, 7, 11, 12 is unknown, so is the result"
-- What an operation of the wrong type gives is unknown too; an accepted table has none.

-- the type of what op 5 gives
abbrev pub binary_type : ℕ → ValueType → ValueType
binary_type sub t = Imm (Subs.binary_width sub (size t))

-- op 5 (AOP_UNK_RHS, AOP_UNK_LHS, LOP_UNK_RHS, LOP_UNK_LHS, PLUS to SLE)
abbrev pub binary : ℕ → Value → Value → Value
binary sub (Word w a) (Word v b) = computed (Subs.binary_width sub w) (Subs.binary sub w a b)
binary sub (Word w a) (Unknown t) = Unknown (binary_type sub (Imm w))
binary sub (Word w a) (Memory v head) = Unknown (binary_type sub (Imm w))
binary sub (Unknown t) y = Unknown (binary_type sub t)
binary sub (Memory w head) y = Unknown (binary_type sub (Mem w))

-- op 6 (UOP_UNK, NOT, UMINUS)
abbrev pub unary : ℕ → Value → Value
unary sub (Word w a) = computed w (Subs.unary sub w a)
unary sub (Unknown t) = Unknown (Imm (size t))
unary sub (Memory w head) = Unknown (Imm w)

-- op 7 (CAST_UNK, CAST_LOW, CAST_HIGH, CAST_SIGNED, CAST_UNSIGNED)
abbrev pub cast : ℕ → ℕ → Value → Value
cast sub p (Word w a) = computed p (Subs.cast sub w p a)
cast sub p (Unknown t) = Unknown (Imm p)
cast sub p (Memory w head) = Unknown (Imm p)

-- op 11 (EXTRACT_UN, EXTRACT)
abbrev pub extract : ℕ → ℕ → Value → Value
extract p q (Word w a) = Word (p - q + 1) (Words.extract p q a)
extract p q (Unknown t) = Unknown (Imm (p - q + 1))
extract p q (Memory w head) = Unknown (Imm (p - q + 1))

-- the type of what op 12 gives
abbrev pub concat_type : ValueType → ValueType → ValueType
concat_type t u = Imm (size t + size u)

-- op 12 (CONCAT_RHS_UN, CONCAT_LHS_UN, CONCAT)
abbrev pub concat : Value → Value → Value
concat (Word w a) (Word v b) = Word (w + v) (Words.concat v a b)
concat (Word w a) (Unknown u) = Unknown (concat_type (Imm w) u)
concat (Word w a) (Memory v head) = Unknown (concat_type (Imm w) (Mem v))
concat (Unknown t) y = Unknown (concat_type t (type_of y))
concat (Memory w head) y = Unknown (concat_type (Mem w) (type_of y))

-- op 10 (ITE_TRUE, ITE_FALSE, ITE_UNK): "an ite with unknown condition is unknown"
abbrev pub choose : Value → Value → Value → Value
choose (Word w c) x y = if eqb c 1 then x else y
choose (Unknown t) x y = Unknown (type_of x)
choose (Memory w head) x y = Unknown (type_of x)
