-- Loads and stores. The names in capitals are rules of 002, whose public copy prints LOAD_WORD_BE as LOAL_BE; `completed` marks where paper 01
-- completes them. Assumes nothing.
use Rattle.std.specs.Prelude.{Bool, true, false, List, [], ◌∷◌, reverse, ℕ, zero, suc, ◌+◌, ◌*◌, ◌/◌, ◌%◌, ◌^◌, ltb, eqb, length, replicate}
use Rattle.std.proofs.Math.Option.{Option, none, some}
use Rattle.std.specs.Prelude.{if◌then◌else◌}
use Rattle.value.specs.declared.ValueType.TheVariants.{Imm}
use Rattle.value.specs.declared.Value.{Value}
use Rattle.value.specs.declared.Value.TheVariants.{Word, Unknown, Memory}
use Rattle.value.specs.Values.{type_of, size}
use Rattle.memory.specs.Log.{Log, Cell, chain, unknown_byte}

-- the address above: "upward modulo 2^width" (succ of 002)
abbrev pub succ : ℕ → ℕ → ℕ
succ w a = (a + 1) % 2 ^ w

-- "little puts the low byte first, big the high"
unfoldable pub in_order : Bool → List ℕ → List ℕ
in_order true bytes = reverse bytes
in_order false bytes = bytes

-- ------------------------------------------------------------------------------------------------
-- Loads

-- LOAD_BYTE, LOAD_BYTE_FROM_NEXT; completed: "the walk of a chain ends at the first entry with that address; at 0 it is unknown"
unfoldable pub byte_at : List Cell → ℕ → ℕ
byte_at [] a = unknown_byte
byte_at (c ∷ older) a = elim (eqb c.address a) [ true ↦ c.byte | false ↦ byte_at older a ]

-- LOAD_WORD_BE, LOAD_WORD_EL: n bytes from an address on, "at such a store's addresses"
unfoldable pub bytes_from : List Cell → ℕ → ℕ → ℕ → List ℕ
unfolding byte_at
bytes_from cells w zero a = []
bytes_from cells w (suc n) a = byte_at cells a ∷ bytes_from cells w n (succ w a)

-- bytes joined, the low one first; "one unknown byte .. makes it unknown"
unfoldable pub join : List ℕ → Option ℕ
join [] = some 0
join (b ∷ bytes) = elim (join bytes) [ none ↦ none | some v ↦ if ltb b unknown_byte then some (b + 256 * v) else none ]

unfoldable pub loaded : ℕ → Option ℕ → Value
loaded z none = Unknown (Imm z)
loaded z (some v) = Word z v

-- a load of z bits; completed: "A wider load joins the bytes at such a store's addresses, in its order; one unknown byte, an unknown address or
-- unknown memory makes it unknown" (LOAD_UN_ADDR, LOAD_UN_MEM)
unfoldable pub load : Log → ℕ → Bool → Value → Value → Value
unfolding loaded join in_order bytes_from chain
load L z big (Memory w head) (Word v a) = loaded z (join (in_order big (bytes_from (chain L head) w (z / 8) a)))
load L z big (Memory w head) (Unknown t) = Unknown (Imm z)
load L z big (Memory w head) (Memory v h) = Unknown (Imm z)
load L z big (Unknown t) address = Unknown (Imm z)
load L z big (Word v a) address = Unknown (Imm z)

-- ------------------------------------------------------------------------------------------------
-- Stores

-- the log after a store with its memory, or the log that had no room
pub data Stored : Type 0 where
  stored : Value → Log → Stored
  full : Log → Stored

-- "appends one entry a byte, from that address upward modulo 2^width", each the previous of the next. "Its value is the chain that starts at the
-- last entry." Entries are only added: "Log room isn't used again".
unfoldable pub append : ℕ → ℕ → List ℕ → ℕ → ℕ → Log → Stored
append room w [] head a L = stored (Memory w head) L
append room w (b ∷ bytes) head a L =
    elim (ltb (length L) room) [
      | true ↦ append room w bytes (suc (length L)) (succ w a) (record { previous = head; width = w; address = a; byte = b } ∷ L)
      | false ↦ full L
    ]

-- n bytes of a word, the low one first
unfoldable pub bytes_of : ℕ → ℕ → List ℕ
bytes_of zero v = []
bytes_of (suc n) v = v % 256 ∷ bytes_of n (v / 256)

-- "an unknown value's bytes are all unknown"
unfoldable pub bytes_in : ℕ → Bool → Value → List ℕ
unfolding in_order bytes_of
bytes_in z big (Word w v) = in_order big (bytes_of (z / 8) v)
bytes_in z big (Unknown t) = replicate (z / 8) unknown_byte
bytes_in z big (Memory w head) = replicate (z / 8) unknown_byte

-- completed: "on unknown memory as a chain that starts from 0"
unfoldable pub head_of : Value → ℕ
head_of (Word w v) = 0
head_of (Unknown t) = 0
head_of (Memory w head) = head

-- STORE_WORD_BE, STORE_WORD_EL, STORE_VAL; completed: "A store to an unknown address appends nothing and gives unknown memory"
-- (STORE_UN_ADDR)
unfoldable pub store : ℕ → Log → ℕ → Bool → Value → Value → Value → Stored
unfolding append bytes_in head_of
store room L z big memory (Word w a) value = append room (size (type_of memory)) (bytes_in z big value) (head_of memory) a L
store room L z big memory (Unknown t) value = stored (Unknown (type_of memory)) L
store room L z big memory (Memory w head) value = stored (Unknown (type_of memory)) L
