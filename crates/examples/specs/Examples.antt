-- Paper 01's 'Examples with numbers': "To be proved as one table, under a single statement over all its rows." Assumes nothing.
use Rattle.std.specs.Prelude.{◌≡◌, refl, Bool, true, false, List, [], ◌∷◌, map, reverse, ℕ}
use Rattle.word.specs.Words.{signed, word_of}
use Rattle.value.specs.declared.ValueType.TheVariants.{Imm, Mem}
use Rattle.value.specs.declared.Value.{Value}
use Rattle.value.specs.declared.Value.TheVariants.{Word, Unknown}
use Rattle.value.specs.Values as Values
use Rattle.memory.specs.declared.Entry.{Entry}
use Rattle.memory.specs.Log.{Log}
use Rattle.memory.specs.Access as Access
use Rattle.memory.specs.Access.{Stored, stored, full}

-- ------------------------------------------------------------------------------------------------
-- What a row asks, and what it gives

pub data Ask : Type 0 where
  binary : ℕ → Value → Value → Ask  -- sub, two values
  cast : ℕ → ℕ → Value → Ask  -- sub, new width, a value
  extract : ℕ → ℕ → Value → Ask  -- high, low, a value
  storing : Stored → Ask  -- what a store has appended
  loading : Stored → ℕ → Bool → Value → Ask  -- after a store, from its memory: size, whether big, address

pub data Answer : Type 0 where
  value : Value → Answer
  appended : List (ℕ × ℕ) → Answer  -- addresses and bytes, in the log's order
  no_room : Answer

cells : Log → List (ℕ × ℕ)
cells L = map (λ (e : Entry). (e.address, e.byte)) (reverse L)

pub answer : Ask → Answer
unfolding cells Access.load
answer (binary sub x y) = value (Values.binary sub x y)
answer (cast sub p x) = value (Values.cast sub p x)
answer (extract p q x) = value (Values.extract p q x)
answer (storing (stored memory L)) = appended (cells L)
answer (storing (full L)) = no_room
answer (loading (stored memory L) z big a) = value (Access.load L z big memory a)
answer (loading (full L) z big a) = no_room

-- ------------------------------------------------------------------------------------------------
-- The rows

pub record Row : Type 0 where
  pub ask : Ask
  pub gives : Answer

infix 5 ◌gives◌
◌gives◌ : Ask → Value → Row
q gives v = record { ask = q; gives = value v }

infix 5 ◌appends◌
◌appends◌ : Ask → List (ℕ × ℕ) → Row
q appends l = record { ask = q; gives = appended l }

-- "At 8 bits"
byte : ℕ → Value
byte = Word 8

-- 0x1234 big at 0xFF, in an unknown memory of address width 8, to an empty log with room for two
at_the_top : Stored
unfolding byte Access.store
at_the_top = Access.store 2 [] 16 true (Unknown (Mem 8)) (byte 0xff) (Word 16 0x1234)

-- "sdiv 0x80, 0xFF is 0x80; sdiv 0xF9, 2 is 0xFD; smod 0xF9, 2 is 0xFF; smod 7, 0xFE is 1; asr 0x80, 8 is 0xFF; lsr 0x80, 8 is 0;
-- slt 0x80, 0x7F is 1, lt is 0; extract 9:2 of 0xFF is 0x3F; high 4 of 0xA5 is 0xA; signed 16 of 0x80 is 0xFF80; unknown times 0 is
-- unknown; storing 0x1234 big at 0xFF, address width 8, appends (0xFF, 0x12), (0, 0x34), and a little load there gives 0x3412"
pub rows : List Row
unfolding ◌gives◌ ◌appends◌ byte
rows =
    (binary 5 (byte 0x80) (byte 0xff) gives byte 0x80)  -- sdiv
    ∷ (binary 5 (byte 0xf9) (byte 2) gives byte 0xfd)  -- sdiv
    ∷ (binary 7 (byte 0xf9) (byte 2) gives byte 0xff)  -- smod
    ∷ (binary 7 (byte 7) (byte 0xfe) gives byte 1)  -- smod
    ∷ (binary 13 (byte 0x80) (byte 8) gives byte 0xff)  -- asr
    ∷ (binary 12 (byte 0x80) (byte 8) gives byte 0)  -- lsr
    ∷ (binary 18 (byte 0x80) (byte 0x7f) gives Word 1 1)  -- slt
    ∷ (binary 16 (byte 0x80) (byte 0x7f) gives Word 1 0)  -- lt
    ∷ (extract 9 2 (byte 0xff) gives byte 0x3f)
    ∷ (cast 2 4 (byte 0xa5) gives Word 4 0xa)  -- high
    ∷ (cast 3 16 (byte 0x80) gives Word 16 0xff80)  -- signed
    ∷ (binary 3 (Unknown (Imm 8)) (byte 0) gives Unknown (Imm 8))  -- times
    ∷ (storing at_the_top appends ((0xff, 0x12) ∷ (0, 0x34) ∷ []))
    ∷ (loading at_the_top 16 false (byte 0xff) gives Word 16 0x3412)
    ∷ []

-- every row's answer is what the row gives
pub table : map (λ (r : Row). answer r.ask) rows ≡ map (λ (r : Row). r.gives) rows
unfolding answer rows at_the_top signed word_of
table = refl
