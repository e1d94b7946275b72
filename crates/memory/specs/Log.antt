-- "Memory is kept in a log." Its entries, their numbers in a buffer, and chains. Assumes nothing.
use Rattle.std.specs.Prelude.{Bool, true, false, ◌&&◌, ◌||◌, List, [], ◌∷◌, ◌++◌, ℕ, zero, suc, ◌+◌, ◌*◌, ◌/◌, ◌^◌, leb, ltb, eqb, length, get_or, drop}
use Rattle.base.specs.Choice.{within}
use Rattle.memory.specs.declared.Entry.{Entry}

-- "An entry is four 64-bit numbers: previous entry .., address width .., address, byte": `Entry` of src. Their limits are in `newest_ok`.
abbrev pub entry_size : ℕ
entry_size = 4

-- "256 unknown"
abbrev pub unknown_byte : ℕ
unknown_byte = 256

-- how many entries a buffer has room for
abbrev pub room_in : List ℕ → ℕ
room_in l = length l / entry_size

-- the newest entry first. "entries count from 1": the number of an entry is how many stand from it to the end
abbrev pub Log : Type 0
Log = List Entry

-- ------------------------------------------------------------------------------------------------
-- The log's buffer

unfoldable pub entry_at : List ℕ → ℕ → Entry
entry_at l at = record { previous = get_or l at 0; width = get_or l (at + 1) 0; address = get_or l (at + 2) 0; byte = get_or l (at + 3) 0 }

-- the first n entries of a buffer
unfoldable pub entries : List ℕ → ℕ → Log
unfolding entry_at
entries l zero = []
entries l (suc n) = entry_at l (entry_size * n) ∷ entries l n

-- an entry's numbers, in the order in which they stand in the buffer
abbrev pub fields_of : Entry → List ℕ
fields_of e = e.previous ∷ e.width ∷ e.address ∷ e.byte ∷ []

unfoldable pub numbers_of : Log → List ℕ
numbers_of [] = []
numbers_of (e ∷ L) = numbers_of L ++ fields_of e

-- a buffer that holds a log; "Log beyond the count given back is unchanged."
unfoldable pub holding : List ℕ → Log → List ℕ
unfolding numbers_of
holding l L = numbers_of L ++ drop (entry_size * length L) l

-- the address width of entry n
unfoldable pub width_at : Log → ℕ → ℕ
width_at [] n = 0
width_at (e ∷ L) n = elim (eqb n (suc (length L))) [ true ↦ e.width | false ↦ width_at L n ]

-- the newest entry keeps the limits: "previous entry (0 or a lower number ..), address width (1 to 64), address, byte (0 to 255, or 256
-- unknown). A previous entry has the same address width, and the address is below 2^width."
unfoldable pub newest_ok : Log → Bool
unfolding width_at
newest_ok [] = true
newest_ok (e ∷ L) =
    leb e.previous (length L)
    && (within 1 64 e.width
    && (ltb e.address (2 ^ e.width) && (leb e.byte unknown_byte && (eqb e.previous 0 || eqb (width_at L e.previous) e.width))))

-- ------------------------------------------------------------------------------------------------
-- Chains: the value of a memory is the list of its stores, the newest first

pub record Cell : Type 0 where
  pub address : ℕ
  pub byte : ℕ

-- the chain that starts at entry n
unfoldable pub chain : Log → ℕ → List Cell
chain [] n = []
chain (e ∷ L) n = elim (eqb n (suc (length L))) [ true ↦ record { address = e.address; byte = e.byte } ∷ chain L e.previous | false ↦ chain L n ]
