-- A table's bytes from its records, for examples: what Bytes reads, the other way round. Assumes nothing.
use mathlib.Core.List.{List, [], ◌∷◌, ◌++◌, flat_map}
use Prim.Native.Nat.{ℕ, ◌+◌, ◌*◌, ◌/◌, ◌%◌, ◌^◌}
use lib.ListN.{length}
use Rattle.table.specs.declared.Header.{Header}
use Rattle.table.specs.declared.Variable.{Variable}
use Rattle.table.specs.declared.Node.{Node}

-- ------------------------------------------------------------------------------------------------
-- Bytes: "Numbers are little-endian"

unfoldable pub two_bytes : ℕ → List ℕ
two_bytes n = n % 2 ^ 8 ∷ n / 2 ^ 8 ∷ []

unfoldable pub four_bytes : ℕ → List ℕ
unfolding two_bytes
four_bytes n = two_bytes (n % 2 ^ 16) ++ two_bytes (n / 2 ^ 16)

unfoldable pub header_bytes : Header → List ℕ
unfolding two_bytes four_bytes flat_map
header_bytes h =
    flat_map two_bytes (h.format ∷ h.width ∷ [])
    ++ flat_map
    four_bytes
    (h.variables ∷ h.variablesAt ∷ h.expressions ∷ h.expressionsAt ∷ h.statements ∷ h.statementsAt ∷ h.total ∷ [])

unfoldable pub variable_bytes : Variable → List ℕ
unfolding two_bytes
variable_bytes v =
    v.kind ∷ v.label ∷ v.width ∷ v.addressWidth ∷ v.role ∷ v.spare % 2 ^ 8 ∷ two_bytes (v.spare / 2 ^ 8)

unfoldable pub node_bytes : Node → List ℕ
unfolding four_bytes flat_map
node_bytes r = r.op ∷ r.sub ∷ r.p ∷ r.q ∷ flat_map four_bytes (r.a ∷ r.b ∷ r.c ∷ [])

-- ------------------------------------------------------------------------------------------------
-- The table of its address width, variables, expressions and statements

-- the header of an address width and of counts: "the offsets are 32, 32+8V, 32+8V+16E, and the total is 32+8V+16E+16S"
unfoldable pub header_of : ℕ → ℕ → ℕ → ℕ → Header
header_of width v e s =
    record {
      format = 1;
      width = width;
      variables = v;
      variablesAt = 32;
      expressions = e;
      expressionsAt = 32 + 8 * v;
      statements = s;
      statementsAt = 32 + 8 * v + 16 * e;
      total = 32 + 8 * v + 16 * e + 16 * s;
    }

unfoldable pub assembled : ℕ → List Variable → List Node → List Node → List ℕ
unfolding header_of header_bytes variable_bytes node_bytes flat_map
assembled width variables expressions statements =
    header_bytes (header_of width (length variables) (length expressions) (length statements))
    ++ (flat_map variable_bytes variables ++ (flat_map node_bytes expressions ++ flat_map node_bytes statements))

-- ------------------------------------------------------------------------------------------------
-- Variables

-- an open state variable of some bits
abbrev pub immediate : ℕ → Variable
immediate w = record { kind = 1; label = 0; width = w; addressWidth = 0; role = 0; spare = 0 }

-- an open state memory of some address bits
abbrev pub memory : ℕ → Variable
memory w = record { kind = 2; label = 0; width = 8; addressWidth = w; role = 0; spare = 0 }

-- a variable with its label changed to sealed, and with its role changed to let
abbrev pub sealed : Variable → Variable
sealed v = record { kind = v.kind; label = 1; width = v.width; addressWidth = v.addressWidth; role = v.role; spare = v.spare }

abbrev pub as_let : Variable → Variable
as_let v = record { kind = v.kind; label = v.label; width = v.width; addressWidth = v.addressWidth; role = 1; spare = v.spare }

-- ------------------------------------------------------------------------------------------------
-- Expressions, in the order of paper 01's table; operands are numbers of expressions

abbrev pub node : ℕ → ℕ → ℕ → ℕ → ℕ → ℕ → ℕ → Node
node op sub p q a b c = record { op = op; sub = sub; p = p; q = q; a = a; b = b; c = c }

abbrev pub var : ℕ → Node
var x = node 1 0 0 0 x 0 0

abbrev pub word : ℕ → ℕ → Node
word w v = node 2 0 w 0 0 (v % 2 ^ 32) (v / 2 ^ 32)

-- size, order, memory, address
abbrev pub load : ℕ → ℕ → ℕ → ℕ → Node
load z order m a = node 3 0 z order m a 0

-- size, order, memory, address, value
abbrev pub store : ℕ → ℕ → ℕ → ℕ → ℕ → Node
store z order m a v = node 4 0 z order m a v

abbrev pub binary : ℕ → ℕ → ℕ → Node
binary sub a b = node 5 sub 0 0 a b 0

abbrev pub unary : ℕ → ℕ → Node
unary sub a = node 6 sub 0 0 a 0 0

abbrev pub cast : ℕ → ℕ → ℕ → Node
cast sub w a = node 7 sub w 0 a 0 0

-- a let variable, bound, body
abbrev pub lets : ℕ → ℕ → ℕ → Node
lets x b c = node 8 0 0 0 x b c

-- an unknown word of a width
abbrev pub unknown : ℕ → Node
unknown w = node 9 0 w 0 0 0 0

-- condition, then, else
abbrev pub ite : ℕ → ℕ → ℕ → Node
ite c a b = node 10 0 0 0 c a b

abbrev pub extract : ℕ → ℕ → ℕ → Node
extract high low a = node 11 0 high low a 0 0

abbrev pub concat : ℕ → ℕ → Node
concat a b = node 12 0 0 0 a b 0

-- ------------------------------------------------------------------------------------------------
-- Statements

abbrev pub move : ℕ → ℕ → Node
move x e = node 1 0 0 0 x e 0

abbrev pub jmp : ℕ → Node
jmp e = node 2 0 0 0 e 0 0

abbrev pub cpuexn : ℕ → Node
cpuexn n = node 3 0 0 0 n 0 0

abbrev pub special : ℕ → Node
special n = node 4 0 0 0 n 0 0

-- guard, length of the body
abbrev pub while : ℕ → ℕ → Node
while e n = node 5 0 0 0 e n 0

-- guard, lengths of then and else
abbrev pub if : ℕ → ℕ → ℕ → Node
if e n m = node 6 0 0 0 e n m
