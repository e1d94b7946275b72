-- Refusals 1 to 18, each with its place: small tables and starts, as one table under a single statement. Assumes nothing.
use Rattle.std.specs.Prelude.{◌≡◌, refl, List, [], ◌∷◌, ◌++◌, map, ℕ, zero, suc, pred, length, set, take, replicate}
use Rattle.base.specs.Refusals.{code_of, place_of}
use Rattle.table.specs.declared.Variable.{Variable}
use Rattle.table.specs.declared.Node.{Node}
use Rattle.table.proofs.Assembler.{assembled, immediate, memory, sealed, as_let, node}
use Rattle.table.proofs.Assembler.{var, word, load, store, binary, unary, cast, lets, ite, extract, concat}
use Rattle.table.proofs.Assembler.{move, jmp, cpuexn, while, if}
use Rattle.typing.specs.Verdict as Types
use Rattle.sealing.specs.Verdict as Seals
use Rattle.running.specs.Start.{Start}
use Rattle.running.specs.Result as Results
use Rattle.examples.specs.Runs.{paper, chained}

-- ------------------------------------------------------------------------------------------------
-- What a row asks, and the code and the place that are given back

pub data Ask : Type 0 where
  check : List ℕ → Ask  -- a table's bytes
  seal : List ℕ → Ask
  run : Start → Ask

unfoldable pub answer : Ask → ℕ × ℕ
answer (check s) = let a = Types.check s in (code_of a, place_of a)
answer (seal s) = let a = Seals.seal_check s in (code_of a, place_of a)
answer (run s) = let a = (Results.result s).ending in (Results.code_of a, Results.place_of a)

pub record Row : Type 0 where
  pub ask : Ask
  pub gives : ℕ × ℕ

infix 5 ◌gives◌at◌
unfoldable pub ◌gives◌at◌ : Ask → ℕ → ℕ → Row
q gives code at place = record { ask = q; gives = (code, place) }

-- ------------------------------------------------------------------------------------------------
-- Tables and starts

-- paper 01's 72 bytes with one of them changed: header 0 to 31, variable 32 to 39, expression 40 to 55, statement 56 to 71
changed : ℕ → ℕ → List ℕ
unfolding paper
changed = set paper

-- an open byte, a let's byte, a memory of 8 address bits, a sealed byte
variables : List Variable
variables = immediate 8 ∷ as_let (immediate 8) ∷ memory 8 ∷ sealed (immediate 8) ∷ []

-- expressions and statements over those variables
unfoldable pub with : List Node → List Node → List ℕ
unfolding assembled variables
with = assembled 8 variables

-- expressions, the last of them moved to variable 0
of : List Node → List ℕ
unfolding with
of expressions = with expressions (move 0 (pred (length expressions)) ∷ [])

-- n ifs, each all of the body of the one before, then a cpuexn, of nesting n + 1; guards from expression i on
ifs : ℕ → ℕ → List Node
ifs i zero = cpuexn 0 ∷ []
ifs i (suc n) = if i (suc n) 0 ∷ ifs (suc i) n

nested : ℕ → List ℕ
unfolding with ifs
nested n = with (replicate n (word 1 1)) (ifs 0 n)

-- a start with its state, log, log count and next address
from : List ℕ → List ℕ → List ℕ → ℕ → ℕ → Start
from table state log count next = record { table = table; state = state; log = log; count = count; next = next; budget = 10 }

-- the 72 bytes
unfoldable pub begun : List ℕ → List ℕ → ℕ → ℕ → Start
unfolding paper from
begun = from paper

-- "all absent", for those variables
absent : List ℕ
absent = replicate 8 0

-- a jump to 0 over those variables, with a state and a log of whole entries
jumped : List ℕ → List ℕ → ℕ → Start
unfolding with from
jumped state log count = from (with (word 8 0 ∷ []) (jmp 0 ∷ [])) state log count 0

-- ------------------------------------------------------------------------------------------------
-- The header: 1 to 4

header_rows : List Row
unfolding ◌gives◌at◌ changed paper
header_rows =
    (check [] gives 1 at 0)
    ∷ (check (take 31 paper) gives 1 at 0)
    ∷ (check (changed 0 2) gives 2 at 0)  -- format
    ∷ (check (changed 2 0) gives 2 at 0)  -- address width 0
    ∷ (check (changed 2 65) gives 2 at 0)  -- address width 65
    ∷ (check (changed 5 1) gives 3 at 0)  -- 257 variables
    ∷ (check (changed 13 8) gives 3 at 0)  -- 2,049 expressions
    ∷ (check (changed 20 0) gives 3 at 0)  -- no statement
    ∷ (check (changed 21 4) gives 3 at 0)  -- 1,025 statements
    ∷ (check (changed 8 33) gives 4 at 0)  -- the variables' offset
    ∷ (check (changed 16 41) gives 4 at 0)  -- the expressions' offset
    ∷ (check (changed 24 57) gives 4 at 0)  -- the statements' offset
    ∷ (check (changed 28 73) gives 4 at 0)  -- total length
    ∷ (check (paper ++ (0 ∷ [])) gives 4 at 0)  -- the length lent
    ∷ []

-- ------------------------------------------------------------------------------------------------
-- The records: 5 to 7

record_rows : List Row
unfolding ◌gives◌at◌ changed with of assembled
record_rows =
    (check (changed 32 3) gives 5 at 0)  -- kind
    ∷ (check (changed 33 2) gives 5 at 0)  -- label
    ∷ (check (changed 34 0) gives 5 at 0)  -- width 0
    ∷ (check (changed 34 65) gives 5 at 0)  -- width 65
    ∷ (check (changed 35 8) gives 5 at 0)  -- an immediate's address width
    ∷ (check (changed 36 2) gives 5 at 0)  -- role
    ∷ (check (changed 39 1) gives 5 at 0)  -- "three zeros"
    ∷ (check (assembled 8 (immediate 8 ∷ memory 0 ∷ []) (word 8 5 ∷ []) (move 0 0 ∷ [])) gives 5 at 1)  -- a memory's address width
    ∷ (check (changed 40 0) gives 6 at 0)  -- op 0
    ∷ (check (changed 40 13) gives 6 at 0)  -- op 13
    ∷ (check (changed 41 1) gives 6 at 0)  -- "A field not named is 0"
    ∷ (check (changed 42 65) gives 6 at 0)  -- a word's width
    ∷ (check (changed 49 1) gives 6 at 0)  -- 0x105 in 8 bits
    ∷ (check (of (var 4 ∷ [])) gives 6 at 0)  -- no such variable
    ∷ (check (of (var 2 ∷ word 8 0 ∷ load 12 0 0 1 ∷ [])) gives 6 at 2)  -- size
    ∷ (check (of (var 2 ∷ word 8 0 ∷ load 8 2 0 1 ∷ [])) gives 6 at 2)  -- order
    ∷ (check (of (word 8 5 ∷ word 8 3 ∷ binary 20 0 1 ∷ [])) gives 6 at 2)  -- a binary sub
    ∷ (check (of (word 8 5 ∷ unary 3 0 ∷ [])) gives 6 at 1)  -- a unary sub
    ∷ (check (of (word 8 5 ∷ unary 2 1 ∷ [])) gives 6 at 1)  -- its operand isn't earlier
    ∷ (check (of (word 8 5 ∷ cast 4 65 0 ∷ [])) gives 6 at 1)  -- a cast's width
    ∷ (check (of (word 8 5 ∷ var 0 ∷ lets 0 0 1 ∷ [])) gives 6 at 2)  -- a let of a state variable
    ∷ (check (of (node 9 0 16 8 0 0 0 ∷ [])) gives 6 at 0)  -- an unknown memory of 16-bit elements
    ∷ (check (of (word 8 5 ∷ extract 1 2 0 ∷ [])) gives 6 at 1)  -- low above high
    ∷ (check (of (word 8 5 ∷ extract 64 0 0 ∷ [])) gives 6 at 1)  -- 65 bits
    ∷ (check (changed 56 7) gives 7 at 0)  -- op
    ∷ (check (changed 57 1) gives 7 at 0)  -- "three zeros"
    ∷ (check (changed 60 1) gives 7 at 0)  -- no such variable
    ∷ (check (changed 36 1) gives 7 at 0)  -- a move to a let variable
    ∷ (check (changed 64 1) gives 7 at 0)  -- no such expression
    ∷ (check (with (word 1 0 ∷ []) (while 0 0 ∷ [])) gives 7 at 0)  -- an empty body
    ∷ (check (with (word 1 0 ∷ []) (cpuexn 1 ∷ while 0 2 ∷ cpuexn 2 ∷ [])) gives 7 at 1)  -- a body past the end
    ∷ (check (with (word 1 0 ∷ word 1 0 ∷ []) (while 0 2 ∷ if 1 1 1 ∷ cpuexn 1 ∷ cpuexn 2 ∷ [])) gives 7 at 1)  -- past the body around it
    ∷ []

-- ------------------------------------------------------------------------------------------------
-- How they stand together: 8 to 11

forest_rows : List Row
unfolding ◌gives◌at◌ of with nested chained
forest_rows =
    (check (of (word 8 5 ∷ word 8 3 ∷ [])) gives 8 at 0)  -- not used
    ∷ (check (of (word 8 5 ∷ binary 1 0 0 ∷ [])) gives 8 at 0)  -- used twice, by an expression
    ∷ (check (with (word 8 5 ∷ []) (jmp 0 ∷ move 0 0 ∷ [])) gives 8 at 0)  -- used twice, by statements
    ∷ (check (chained 65) gives 9 at 64)  -- depths 65 and 66
    ∷ (check (nested 31) gives 0 at 0)  -- nesting 32
    ∷ (check (nested 32) gives 10 at 32)  -- nesting 33
    ∷ (check (of (var 1 ∷ [])) gives 11 at 0)  -- a read in no body
    ∷ (check (of (var 1 ∷ var 1 ∷ lets 1 0 1 ∷ [])) gives 11 at 0)  -- a read in its own bound expression
    ∷ (check (of (word 8 1 ∷ word 8 2 ∷ var 1 ∷ lets 1 1 2 ∷ lets 1 0 3 ∷ [])) gives 11 at 3)  -- a let in the body of another: the inner
    ∷ (check (of (word 8 5 ∷ var 1 ∷ lets 1 0 1 ∷ var 1 ∷ lets 1 2 3 ∷ [])) gives 0 at 0)  -- a let in the bound expression of another
    ∷ []

-- ------------------------------------------------------------------------------------------------
-- Types: 12 and 13

type_rows : List Row
unfolding ◌gives◌at◌ of with
type_rows =
    (check (of (word 8 5 ∷ word 16 3 ∷ binary 1 0 1 ∷ [])) gives 12 at 2)  -- widths differ
    ∷ (check (of (var 2 ∷ unary 2 0 ∷ [])) gives 12 at 1)  -- a memory for a word
    ∷ (check (of (word 4 5 ∷ cast 1 8 0 ∷ [])) gives 12 at 1)  -- low that widens
    ∷ (check (of (word 16 5 ∷ cast 3 8 0 ∷ [])) gives 12 at 1)  -- signed that narrows
    ∷ (check (of (word 64 5 ∷ word 1 0 ∷ concat 0 1 ∷ [])) gives 12 at 2)  -- 65 bits
    ∷ (check (of (var 2 ∷ word 16 0 ∷ load 8 0 0 1 ∷ [])) gives 12 at 2)  -- the address's width
    ∷ (check (of (var 2 ∷ word 8 0 ∷ word 8 5 ∷ store 16 0 0 1 2 ∷ [])) gives 12 at 3)  -- the value's size
    ∷ (check (of (word 8 1 ∷ word 8 5 ∷ word 8 3 ∷ ite 0 1 2 ∷ [])) gives 12 at 3)  -- a condition of 8 bits
    ∷ (check (of (word 1 1 ∷ word 8 5 ∷ var 2 ∷ ite 0 1 2 ∷ [])) gives 12 at 3)  -- branches of two types
    ∷ (check (of (word 16 5 ∷ var 1 ∷ lets 1 0 1 ∷ [])) gives 12 at 2)  -- bound to a let of 8 bits
    ∷ (check (of (word 16 5 ∷ [])) gives 13 at 0)  -- moved to a variable of 8 bits
    ∷ (check (with (word 16 5 ∷ []) (cpuexn 0 ∷ jmp 0 ∷ [])) gives 13 at 1)  -- a jump of 16 bits, A is 8
    ∷ (check (with (word 8 1 ∷ []) (if 0 1 0 ∷ cpuexn 0 ∷ [])) gives 13 at 0)  -- a guard of 8 bits
    ∷ []

-- ------------------------------------------------------------------------------------------------
-- Seals: 14 and 15

-- an open byte, a sealed one, a let's sealed byte and a let's open one; three expressions, the last of them moved to the open byte
letting : List Node → List ℕ
unfolding assembled
letting expressions =
    assembled 8 (immediate 8 ∷ sealed (immediate 8) ∷ sealed (as_let (immediate 8)) ∷ as_let (immediate 8) ∷ []) expressions (move 0 2 ∷ [])

seal_rows : List Row
unfolding ◌gives◌at◌ of with letting
seal_rows =
    (seal (of (var 2 ∷ var 3 ∷ load 8 0 0 1 ∷ [])) gives 14 at 2)  -- a load's sealed address
    ∷ (seal (with (var 2 ∷ var 3 ∷ word 8 5 ∷ store 8 0 0 1 2 ∷ []) (move 2 3 ∷ [])) gives 14 at 3)  -- a store's sealed address
    ∷ (seal (of (var 3 ∷ var 1 ∷ lets 1 0 1 ∷ [])) gives 14 at 2)  -- an open let of what is sealed
    -- "A let has its body's label.": what is sealed, bound to a sealed variable, and an open body; beside it the same with an open variable, "a let
    -- whose bound expression is sealed and whose variable is open"; then a body that reads the sealed variable, whatever is bound to it
    ∷ (seal (letting (var 1 ∷ word 8 5 ∷ lets 2 0 1 ∷ [])) gives 0 at 0)
    ∷ (seal (letting (var 1 ∷ word 8 5 ∷ lets 3 0 1 ∷ [])) gives 14 at 2)
    ∷ (seal (letting (var 1 ∷ var 2 ∷ lets 2 0 1 ∷ [])) gives 15 at 0)
    ∷ (seal (letting (word 8 5 ∷ var 2 ∷ lets 2 0 1 ∷ [])) gives 15 at 0)
    ∷ (seal (of (var 3 ∷ [])) gives 15 at 0)  -- what is sealed, moved to an open variable
    ∷ (seal (with (var 3 ∷ []) (move 3 0 ∷ [])) gives 0 at 0)  -- moved to a sealed one
    ∷ (seal (with (var 3 ∷ []) (cpuexn 0 ∷ jmp 0 ∷ [])) gives 15 at 1)  -- a sealed jump
    ∷ (seal (with (var 3 ∷ word 8 0 ∷ binary 14 0 1 ∷ []) (while 2 1 ∷ cpuexn 0 ∷ [])) gives 15 at 0)  -- a sealed guard
    ∷ []

-- ------------------------------------------------------------------------------------------------
-- Starts: 16 to 18. A log of 65,536 entries and one of 65,537 are in Limits.

start_rows : List Row
unfolding ◌gives◌at◌ begun jumped absent
start_rows =
    (run (begun (0 ∷ []) [] 0 0) gives 16 at 0)  -- a state of one number
    ∷ (run (begun (0 ∷ 0 ∷ []) (0 ∷ []) 0 0) gives 16 at 1)  -- a log of one number
    ∷ (run (begun (0 ∷ 0 ∷ []) (replicate 8 0) 3 0) gives 16 at 2)  -- three entries in room for two
    ∷ (run (begun (0 ∷ 0 ∷ []) [] 0 256) gives 16 at 3)  -- next address 2^A
    ∷ (run (begun (0 ∷ 0 ∷ []) (1 ∷ 8 ∷ 0 ∷ 0 ∷ []) 1 0) gives 17 at 1)  -- its own previous
    ∷ (run (begun (0 ∷ 0 ∷ []) (0 ∷ 8 ∷ 0 ∷ 0 ∷ 1 ∷ 16 ∷ 0 ∷ 0 ∷ []) 2 0) gives 17 at 2)  -- another width than its previous
    ∷ (run (begun (0 ∷ 0 ∷ []) (0 ∷ 65 ∷ 0 ∷ 0 ∷ []) 1 0) gives 17 at 1)  -- address width
    ∷ (run (begun (0 ∷ 0 ∷ []) (0 ∷ 8 ∷ 256 ∷ 0 ∷ []) 1 0) gives 17 at 1)  -- address
    ∷ (run (begun (0 ∷ 0 ∷ []) (0 ∷ 8 ∷ 0 ∷ 257 ∷ []) 1 0) gives 17 at 1)  -- byte
    ∷ (run (begun (0 ∷ 0 ∷ []) (0 ∷ 8 ∷ 0 ∷ 257 ∷ []) 0 0) gives 0 at 0)  -- not within the count
    ∷ (run (begun (4 ∷ 0 ∷ []) [] 0 0) gives 18 at 0)  -- no such kind
    ∷ (run (begun (0 ∷ 1 ∷ []) [] 0 0) gives 18 at 0)  -- absent, with a number
    ∷ (run (begun (1 ∷ 256 ∷ []) [] 0 0) gives 18 at 0)  -- a word of 9 bits
    ∷ (run (begun (2 ∷ 1 ∷ []) [] 0 0) gives 18 at 0)  -- unknown, with a number
    ∷ (run (begun (3 ∷ 1 ∷ []) (0 ∷ 8 ∷ 0 ∷ 0 ∷ []) 1 0) gives 18 at 0)  -- a head for an immediate
    ∷ (run (jumped (set absent 2 2) [] 0) gives 18 at 1)  -- a let variable that isn't absent
    ∷ (run (jumped (set absent 4 1) [] 0) gives 18 at 2)  -- a word for a memory
    ∷ (run (jumped (set absent 4 3) (0 ∷ 8 ∷ 0 ∷ 0 ∷ []) 1) gives 18 at 2)  -- head 0
    ∷ (run (jumped (set (set absent 4 3) 5 2) (0 ∷ 8 ∷ 0 ∷ 0 ∷ []) 1) gives 18 at 2)  -- a head over the count
    ∷ (run (jumped (set (set absent 4 3) 5 1) (0 ∷ 16 ∷ 0 ∷ 0 ∷ []) 1) gives 18 at 2)  -- a head of another address width
    ∷ (run (jumped (set (set absent 4 3) 5 1) (0 ∷ 8 ∷ 0 ∷ 0 ∷ []) 1) gives 0 at 0)  -- a head as it must be
    ∷ []

-- ------------------------------------------------------------------------------------------------
-- Several faults: "Codes 1 to 18 come in the order of their numbers, the lowest place first"

order_rows : List Row
unfolding ◌gives◌at◌ changed of with from absent assembled begun
order_rows =
    (check (set (changed 0 2) 20 0) gives 2 at 0)  -- format and a count
    ∷ (check (set (changed 40 0) 32 0) gives 5 at 0)  -- a variable and an expression
    ∷ (check (assembled 8 (immediate 0 ∷ immediate 65 ∷ []) (word 8 5 ∷ []) (move 0 0 ∷ [])) gives 5 at 0)  -- two variables
    ∷ (check (with (word 8 5 ∷ unary 0 0 ∷ unary 0 1 ∷ []) (move 9 2 ∷ [])) gives 6 at 1)  -- two expressions, and statement 0
    ∷ (check (of (word 8 5 ∷ word 16 3 ∷ binary 1 0 1 ∷ word 8 0 ∷ word 8 1 ∷ [])) gives 8 at 2)  -- not used, and widths that differ
    ∷ (check (of (word 8 5 ∷ word 8 3 ∷ concat 0 1 ∷ var 1 ∷ binary 1 2 3 ∷ [])) gives 11 at 3)  -- scope, and widths that differ
    ∷ (check (of (word 4 5 ∷ cast 1 8 0 ∷ cast 2 8 1 ∷ [])) gives 12 at 1)  -- an operand, and what stands on it
    ∷ (check (with (word 16 5 ∷ word 1 0 ∷ cast 1 8 1 ∷ []) (jmp 0 ∷ move 0 2 ∷ [])) gives 12 at 2)  -- an expression, and statement 0
    ∷ (seal (with (var 3 ∷ var 2 ∷ var 3 ∷ load 8 0 1 2 ∷ []) (jmp 0 ∷ move 0 3 ∷ [])) gives 14 at 3)  -- an expression, and statement 0
    ∷ (seal (with (var 3 ∷ word 16 5 ∷ []) (jmp 0 ∷ move 0 1 ∷ [])) gives 13 at 1)  -- a type, and a sealed jump
    ∷ (run (from (of (word 16 5 ∷ [])) [] [] 1 0) gives 13 at 0)  -- the table and the start
    ∷ (run (from (of (var 3 ∷ [])) absent [] 0 0) gives 0 at 0)  -- "run makes 1 to 13 and 16 to 18"
    ∷ (run (begun [] (0 ∷ []) 1 256) gives 16 at 0)  -- four places of 16
    ∷ (run (begun (4 ∷ 0 ∷ []) (0 ∷ 0 ∷ 0 ∷ 0 ∷ []) 1 256) gives 16 at 3)  -- next address, entry 1 and a pair
    ∷ (run (begun (4 ∷ 0 ∷ []) (0 ∷ 8 ∷ 0 ∷ 0 ∷ 0 ∷ 0 ∷ 0 ∷ 0 ∷ 0 ∷ 0 ∷ 0 ∷ 0 ∷ []) 3 0) gives 17 at 2)  -- two entries and a pair
    ∷ []

-- ------------------------------------------------------------------------------------------------
-- All rows

pub rows : List Row
unfolding header_rows record_rows forest_rows type_rows seal_rows start_rows order_rows
rows = header_rows ++ (record_rows ++ (forest_rows ++ (type_rows ++ (seal_rows ++ (start_rows ++ order_rows)))))

pub table : map (λ (r : Row). answer r.ask) rows ≡ map (λ (r : Row). r.gives) rows
unfolding answer rows Types.check Seals.seal_check Results.result Results.code_of Results.place_of
table = refl
