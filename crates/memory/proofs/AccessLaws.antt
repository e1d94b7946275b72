-- How many bytes a store has, and how each is appended. Assumes nothing.
use mathlib.Core.Path.{◌≡◌, refl, ap, ◌∙◌}
use mathlib.Core.Bool.{Bool, true, false}
use mathlib.Core.List.{List, ◌∷◌}
use Prim.Native.Nat.{ℕ, zero, suc, ◌/◌}
use lib.Dec.{ltb}
use lib.ListN.{length, length-reverse, length-replicate}
use Rattle.value.specs.declared.Value.{Value}
use Rattle.value.specs.declared.Value.TheVariants.{Word, Unknown, Memory}
use Rattle.memory.specs.declared.Entry.{Entry}
use Rattle.memory.specs.Log.{Log, unknown_byte}
use Rattle.memory.specs.Access.{full, append, bytes_in, bytes_of, in_order, succ}

-- ------------------------------------------------------------------------------------------------
-- As many bytes, whatever the value

length-bytes_of : (n v : ℕ) → length (bytes_of n v) ≡ n
unfolding bytes_of
length-bytes_of zero v = refl
length-bytes_of (suc n) v = ap suc (length-bytes_of n (v / 256))

pub length-in_order : (big : Bool) (bytes : List ℕ) → length (in_order big bytes) ≡ length bytes
unfolding in_order
length-in_order true bytes = length-reverse bytes
length-in_order false bytes = refl

pub length-bytes_in : (z : ℕ) (big : Bool) (v : Value) → length (bytes_in z big v) ≡ z / 8
unfolding bytes_in
length-bytes_in z big (Word w v) = length-in_order big (bytes_of (z / 8) v) ∙ length-bytes_of (z / 8) v
length-bytes_in z big (Unknown t) = length-replicate (z / 8) unknown_byte
length-bytes_in z big (Memory w head) = length-replicate (z / 8) unknown_byte

-- ------------------------------------------------------------------------------------------------
-- Bytes appended, each as an entry

abbrev pub entry : ℕ → ℕ → ℕ → ℕ → Entry
entry w h a b = record { previous = h; width = w; address = a; byte = b }

-- a byte to append: with room for it, and without
pub append_fits : (room w b : ℕ) (bytes : List ℕ) (h a : ℕ) (L : Log) → ltb (length L) room ≡ true
    → append room w (b ∷ bytes) h a L ≡ append room w bytes (suc (length L)) (succ w a) (entry w h a b ∷ L)
unfolding append
append_fits room w b bytes h a L e = rw (e, append)

pub append_full : (room w b : ℕ) (bytes : List ℕ) (h a : ℕ) (L : Log) → ltb (length L) room ≡ false → append room w (b ∷ bytes) h a L ≡ full L
unfolding append
append_full room w b bytes h a L e = rw (e, append)
