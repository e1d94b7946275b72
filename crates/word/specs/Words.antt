-- Words of 1 to 64 bits: what each operation of paper 01 gives.
-- A word of width w is a number below 2 ^ w, and each operation is arithmetic on such numbers. The comment above a definition
-- quotes the sentence of paper 01 that it states; `completed` marks what 002 leaves open. Laws about them stand in proofs/. Assumes nothing.
use Rattle.std.specs.Prelude.{◌≡◌, ℕ, zero, suc, ◌+◌, ◌-◌, ◌*◌, ◌/◌, ◌%◌, ◌^◌, ◌<◌, ◌≤◌, min, max, Bool, true, false, ℤ, pos, negsuc, neg_ℤ, ◌==◌, int_div, int_le, int_lt, int_rem, nat_le, nat_lt, Option, Some, None, IfSome, if◌then◌else◌}
use Rattle.std.proofs.Math.Bool as Bool'
use Rattle.std.proofs.Math.IntN.{sub_ℕ}
use Rattle.std.specs.Int.Signed.{shr_z}

-- ------------------------------------------------------------------------------------------------
-- Widths and words

-- "words of 1 to 64 bits"
pub record Width (w : ℕ) : Type 0 where
  pub least : 1 ≤ w
  pub most : w ≤ 64

-- a word of a width
pub record IsWord (w a : ℕ) : Type 0 where
  pub width : Width w
  pub fits : a < 2 ^ w

-- two words of one width
pub record AreWords (w a b : ℕ) : Type 0 where
  pub width : Width w
  pub left : a < 2 ^ w
  pub right : b < 2 ^ w

-- what a function of words promises of its result r: it is x, and it is a word of width w
pub record Gives (w x r : ℕ) : Type 0 where
  pub is : r ≡ x
  pub fits : r < 2 ^ w

-- a test as a word of one bit
abbrev pub bit : Bool → ℕ
bit true = 1
bit false = 0

-- ------------------------------------------------------------------------------------------------
-- Arithmetic: "Plus, minus, times and neg are modulo 2^width."

abbrev pub plus : ℕ → ℕ → ℕ → ℕ
plus w a b = (a + b) % 2 ^ w

abbrev pub minus : ℕ → ℕ → ℕ → ℕ
minus w a b = (a + (2 ^ w - b)) % 2 ^ w

abbrev pub times : ℕ → ℕ → ℕ → ℕ
times w a b = a * b % 2 ^ w

abbrev pub neg : ℕ → ℕ → ℕ
neg w a = (2 ^ w - a) % 2 ^ w

-- ------------------------------------------------------------------------------------------------
-- Bit by bit: and, or, xor, not

-- f at each of the w bits of two words, the lowest first
abbrev pub bitwise : (ℕ → ℕ → ℕ) → ℕ → ℕ → ℕ → ℕ
bitwise f zero a b = 0
bitwise f (suc w) a b = bitwise f w (a / 2) (b / 2) * 2 + f (a % 2) (b % 2)

abbrev pub and : ℕ → ℕ → ℕ → ℕ
and = bitwise min

abbrev pub or : ℕ → ℕ → ℕ → ℕ
or = bitwise max

-- 1 where two bits differ
abbrev pub xor : ℕ → ℕ → ℕ → ℕ
xor = bitwise (λ x y. (x + y) % 2)

-- every bit turned over
abbrev pub not : ℕ → ℕ → ℕ
not w a = 2 ^ w - 1 - a

-- ------------------------------------------------------------------------------------------------
-- The signed reading of a word, and the word of an integer

-- two's complement: the number, less 2^w where the highest bit is set
unfoldable pub signed : ℕ → ℕ → ℤ
signed w a = if nat_lt a (2 ^ (w - 1)) then pos a else sub_ℕ a (2 ^ w)

-- whether that is below zero: whether the highest bit is set
abbrev pub negative : ℕ → ℕ → Bool
negative w a = nat_le (2 ^ (w - 1)) a

-- an integer of a magnitude, below zero or not
abbrev pub with_sign : Bool → ℕ → ℤ
with_sign true n = neg_ℤ (pos n)
with_sign false n = pos n

-- an integer modulo 2^w
unfoldable pub word_of : ℕ → ℤ → ℕ
word_of w (pos n) = n % 2 ^ w
word_of w (negsuc n) = 2 ^ w - suc (n % 2 ^ w)

-- ------------------------------------------------------------------------------------------------
-- Shifts; completed: "A shift by the width or more gives zeros, for asr the sign."
-- So a shift by more than the width is one by the width.

abbrev pub lsl : ℕ → ℕ → ℕ → ℕ
lsl w a b = a * 2 ^ min b w % 2 ^ w

abbrev pub lsr : ℕ → ℕ → ℕ → ℕ
lsr w a b = a / 2 ^ min b w

-- the signed reading divided by a power of two, rounded down
abbrev pub asr : ℕ → ℕ → ℕ → ℕ
asr w a b = word_of w (shr_z (signed w a) (2 ^ min b w))

-- ------------------------------------------------------------------------------------------------
-- Comparisons: "subs 14 to 19 give 1 bit"

abbrev pub eq : ℕ → ℕ → ℕ
eq a b = bit (a == b)

abbrev pub neq : ℕ → ℕ → ℕ
neq a b = bit (Bool'.not (a == b))

abbrev pub lt : ℕ → ℕ → ℕ
lt a b = bit (nat_lt a b)

abbrev pub le : ℕ → ℕ → ℕ
le a b = bit (nat_le a b)

abbrev pub slt : ℕ → ℕ → ℕ → ℕ
slt w a b = bit (int_lt (signed w a) (signed w b))

abbrev pub sle : ℕ → ℕ → ℕ → ℕ
sle w a b = bit (int_le (signed w a) (signed w b))

-- ------------------------------------------------------------------------------------------------
-- Division; completed: "Div, sdiv, mod and smod by zero give unknown, since 002 doesn't define them."

abbrev pub unless_zero : ℕ → ℕ → Option ℕ
unless_zero divisor r = if divisor == 0 then None else Some r

abbrev pub div : ℕ → ℕ → Option ℕ
div a b = unless_zero b (a / b)

abbrev pub modulo : ℕ → ℕ → Option ℕ
modulo a b = unless_zero b (a % b)

-- "Sdiv rounds toward zero", "the lowest number divided by minus one is itself"
abbrev pub sdiv : ℕ → ℕ → ℕ → Option ℕ
sdiv w a b = unless_zero b (word_of w (int_div (signed w a) (signed w b)))

-- "smod takes the dividend's sign"
abbrev pub smod : ℕ → ℕ → ℕ → Option ℕ
smod w a b = unless_zero b (word_of w (int_rem (signed w a) (signed w b)))

-- a word of width w, or unknown, which is None
abbrev pub FitsIn : ℕ → Option ℕ → Type 0
FitsIn w r = IfSome r (λ a. a < 2 ^ w)

-- what a function promises that may give unknown: its result r is x, and a word in it is one of width w
pub record Computes (w : ℕ) (x r : Option ℕ) : Type 0 where
  pub is : r ≡ x
  pub fits : FitsIn w r

-- ------------------------------------------------------------------------------------------------
-- Casts to p bits, extract, concat

abbrev pub low : ℕ → ℕ → ℕ
low p a = a % 2 ^ p

abbrev pub high : ℕ → ℕ → ℕ → ℕ
high w p a = a / 2 ^ (w - p)

-- with the sign bit, which is the signed reading at the new width
abbrev pub widened : ℕ → ℕ → ℕ → ℕ
widened w p a = word_of p (signed w a)

-- bits p down to q, both included: "Extract reads zeros above the word."
abbrev pub extract : ℕ → ℕ → ℕ → ℕ
extract p q a = a / 2 ^ q % 2 ^ (p - q + 1)

-- a above b, which has v bits
abbrev pub concat : ℕ → ℕ → ℕ → ℕ
concat v a b = a * 2 ^ v + b
