-- What loads and stores give has its type, and stores keep the log's rules. Assumes nothing.
use mathlib.Core.Path.{◌≡◌, refl, ap, ◌∙◌}
use mathlib.Core.Bool.{Bool, true, false}
use mathlib.Core.List.{List, [], ◌∷◌, reverse_aux}
use mathlib.Core.Option.{Option, none, some}
use Prim.Native.Nat.{ℕ, zero, suc, ◌+◌, ◌*◌, ◌/◌, ◌%◌, ◌^◌, ◌≤◌, ◌<◌}
use native.Mathlib.Omega.{arith}
use lib.Dec.{ltb}
use lib.ListN.{length, replicate, length-replicate}
use lib.Pow.{pow-add}
use borrow.Author.Tests.{ltb-true}
use Rattle.std.specs.Prelude.{if◌then◌else◌}
use Rattle.base.proofs.BoolLaws.{impossible}
use Rattle.word.specs.Words.{Width}
use Rattle.word.proofs.FitLaws.{mod_fits}
use Rattle.value.specs.declared.ValueType.{ValueType}
use Rattle.value.specs.declared.ValueType.TheVariants.{Imm, Mem}
use Rattle.value.specs.declared.Value.{Value}
use Rattle.value.specs.declared.Value.TheVariants.{Word, Unknown, Memory}
use Rattle.value.specs.Values.{Sound, type_of}
use Rattle.value.proofs.ValueLaws.{type_ok}
use Rattle.table.specs.Asked.{SizeOk}
use Rattle.memory.specs.declared.Entry.{Entry}
use Rattle.memory.specs.Log.{Log, Cell, chain, unknown_byte}
use Rattle.memory.specs.Access.{succ, in_order, bytes_from, join, loaded, load, Stored, stored, full, append, bytes_of, bytes_in, head_of, store}
use Rattle.memory.proofs.AccessLaws.{length-in_order}
use Rattle.memory.proofs.LogLaws.{◌⊑◌, stay, more, ⊑_trans}
use Rattle.memory.specs.Typed.{Link}
use Rattle.memory.specs.Room.{Follows, InRoom}
use Rattle.memory.proofs.LogRules.{in_room_newer, newest_link}
use Rattle.memory.specs.Typed.{Has}
use Rattle.memory.proofs.HasLaws.{has_imm}

-- ------------------------------------------------------------------------------------------------
-- Loads

pub length-bytes_from : (cells : List Cell) (w n a : ℕ) → length (bytes_from cells w n a) ≡ n
unfolding bytes_from
length-bytes_from cells w zero a = refl
length-bytes_from cells w (suc n) a = ap suc (length-bytes_from cells w n _)

-- a word of n bytes is below 2^(8n)
pub join_fits : (l : List ℕ) (v : ℕ) → join l ≡ some v → v < 2 ^ (8 * length l)
unfolding join
join_fits [] v h = let e : 0 ≡ v = cc in omega arith
join_fits (b ∷ l) v h = go (join l) (join_fits l) (ltb b unknown_byte) refl h
  where
    go :
        (o : Option ℕ) → ((x : ℕ) → o ≡ some x → x < 2 ^ (8 * length l)) → (t : Bool) → ltb b unknown_byte ≡ t
        → elim o as (λ o. Option ℕ) [ none ↦ none | some x ↦ if t then some (b + 256 * x) else none ] ≡ some v
        → v < 2 ^ (8 * suc (length l))
    go none ih t e k = impossible (cc)
    go (some x) ih false e k = impossible (cc)
    go (some x) ih true e k =
        let below = ih x refl in
        let is : b + 256 * x ≡ v = cc in
        let byte = ltb-true b unknown_byte e in
        let n : 8 * suc (length l) ≡ 8 + 8 * length l = omega arith in
        rw (n, pow-add 2 8 (8 * length l)) (omega arith)

loaded_sound : (z : ℕ) (o : Option ℕ) → Width z → ((v : ℕ) → o ≡ some v → v < 2 ^ z) → Sound (loaded z o)
unfolding loaded
loaded_sound z none w h = w
loaded_sound z (some v) w h = record { width = w; fits = h v refl }

loaded_type : (z : ℕ) (o : Option ℕ) → type_of (loaded z o) ≡ Imm z
unfolding loaded
loaded_type z none = refl
loaded_type z (some v) = refl

pub size_width : {z : ℕ} → SizeOk z → Width z
size_width s = record { least = omega arith; most = s.most }

load_sound : (L : Log) (z : ℕ) (big : Bool) (c a : Value) → SizeOk z → Sound (load L z big c a)
unfolding load
load_sound L z big (Memory w head) (Word v a) s =
    let bytes = bytes_from (chain L head) w (z / 8) a in
    let n : 8 * length (in_order big bytes) ≡ z = rw (length-in_order big bytes, length-bytes_from) (omega (arith, s.multiple)) in
    loaded_sound z _ (size_width s) (λ v h. rw n at (join_fits (in_order big bytes) v h))
load_sound L z big (Memory w head) (Unknown t) s = size_width s
load_sound L z big (Memory w head) (Memory v h) s = size_width s
load_sound L z big (Unknown t) a s = size_width s
load_sound L z big (Word v b) a s = size_width s

load-type : (L : Log) (z : ℕ) (big : Bool) (c a : Value) → type_of (load L z big c a) ≡ Imm z
unfolding load
load-type L z big (Memory w head) (Word v a) = loaded_type z (join (in_order big (bytes_from (chain L head) w (z / 8) a)))
load-type L z big (Memory w head) (Unknown t) = refl
load-type L z big (Memory w head) (Memory v h) = refl
load-type L z big (Unknown t) a = refl
load-type L z big (Word v b) a = refl

pub has_load : (L : Log) {z : ℕ} (big : Bool) (c a : Value) → SizeOk z → Has L (load L z big c a) (Imm z)
has_load L {z} big c a s = has_imm L (load L z big c a) (load_sound L z big c a s) (load-type L z big c a)

-- ------------------------------------------------------------------------------------------------
-- Bytes

pub data Bytes : List ℕ → Type 0 where
  ends : Bytes []
  byte : {b : ℕ} {l : List ℕ} → b ≤ unknown_byte → Bytes l → Bytes (b ∷ l)

reversed_bytes : {l r : List ℕ} → Bytes l → Bytes r → Bytes (reverse_aux l r)
reversed_bytes ends k = k
reversed_bytes (byte h t) k = reversed_bytes t (byte h k)

pub order_bytes : {l : List ℕ} (big : Bool) → Bytes l → Bytes (in_order big l)
unfolding in_order
order_bytes true h = reversed_bytes h ends
order_bytes false h = h

pub word_bytes : (n v : ℕ) → Bytes (bytes_of n v)
unfolding bytes_of
word_bytes zero v = ends
word_bytes (suc n) v = byte {b = v % 256} (omega arith) (word_bytes n (v / 256))

unknown_bytes : (n : ℕ) → Bytes (replicate n unknown_byte)
unknown_bytes zero = ends
unknown_bytes (suc n) = byte {b = unknown_byte} (omega arith) (unknown_bytes n)

pub value_bytes : (z : ℕ) (big : Bool) (v : Value) → Bytes (bytes_in z big v)
unfolding bytes_in
value_bytes z big (Word w v) = order_bytes big (word_bytes (z / 8) v)
value_bytes z big (Unknown t) = unknown_bytes (z / 8)
value_bytes z big (Memory w head) = unknown_bytes (z / 8)

length-bytes_of : (n v : ℕ) → length (bytes_of n v) ≡ n
unfolding bytes_of
length-bytes_of zero v = refl
length-bytes_of (suc n) v = ap suc (length-bytes_of n (v / 256))

pub length-bytes_in : (z : ℕ) (big : Bool) (v : Value) → length (bytes_in z big v) ≡ z / 8
unfolding bytes_in
length-bytes_in z big (Word w v) = length-in_order big (bytes_of (z / 8) v) ∙ length-bytes_of (z / 8) v
length-bytes_in z big (Unknown t) = length-replicate (z / 8) unknown_byte
length-bytes_in z big (Memory w head) = length-replicate (z / 8) unknown_byte

-- ------------------------------------------------------------------------------------------------
-- Stores

-- what a store leaves: a memory of a type, or a full log; either way the log goes on from L, by its rules and within its room
pub data Stores (room : ℕ) (L : Log) (t : ValueType) : Stored → Type 0 where
  stores : {v : Value} {M : Log} → L ⊑ M → InRoom room M → Has M v t → Stores room L t (stored v M)
  fills : {M : Log} → L ⊑ M → InRoom room M → Stores room L t (full M)

stores_more : {room : ℕ} {L M : Log} {t : ValueType} {r : Stored} → L ⊑ M → Stores room M t r → Stores room L t r
stores_more p (stores q k h) = stores (⊑_trans p q) k h
stores_more p (fills q k) = fills (⊑_trans p q) k

-- an entry that is appended where there is room, and what follows it
stores_entry :
    {room : ℕ} {L : Log} {t : ValueType} {r : Stored} (e : Entry) → Follows e L → InRoom room L → (InRoom room (e ∷ L) → Stores room (e ∷ L) t r)
    → Stores room L t (elim (ltb (length L) room) [ true ↦ r | false ↦ full L ])
stores_entry {room} {L} {t} {r} e f k after = go (ltb (length L) room) refl
  where
    go : (b : Bool) → ltb (length L) room ≡ b → Stores room L t (elim b [ true ↦ r | false ↦ full L ])
    go true h = stores_more (more stay) (after (in_room_newer f k (ltb-true (length L) room h)))
    go false h = fills stay k

-- bytes appended to a chain make a memory, if there is one of either
append_keeps :
    {l : List ℕ} {L : Log} {w : ℕ} (room head a : ℕ) → Bytes l → InRoom room L → Width w → Link L w head → 1 ≤ head + length l → a < 2 ^ w
    → Stores room L (Mem w) (append room w l head a L)
unfolding append
append_keeps {w = v} room head a ends k w h n b =
    stores {v = Memory v head} stay k (record { sound = w; type = refl; head = record { least = omega arith; link = h } })
append_keeps {L = L} {w = v} room head a (byte {b = x} y bytes) k w h n b =
    let e : Entry = record { previous = head; width = v; address = a; byte = x } in
    stores_entry e (record { link = h; width = w; address = b; byte = y }) k
    (λ g. append_keeps room (suc (length L)) (succ v a) bytes g w (newest_link e L) (omega arith) (mod_fits v (a + 1)))

head_link : (L : Log) (c : Value) {w : ℕ} → Has L c (Mem w) → Link L w (head_of c)
unfolding head_of
head_link L (Word v a) h = record { most = omega arith; width = λ k. absurd (k refl) }
head_link L (Unknown t) h = record { most = omega arith; width = λ k. absurd (k refl) }
head_link L (Memory v head) {w} h =
    let e : Mem v ≡ Mem w = h.type in
    let f : v ≡ w = cc in
    rw f at h.head.link

pub store_keeps :
    {room z w : ℕ} {L : Log} (big : Bool) (c a v : Value) → SizeOk z → InRoom room L → Has L c (Mem w) → Has L a (Imm w)
    → Stores room L (Mem w) (store room L z big c a v)
unfolding store
store_keeps {room} {z} {w} {L} big c (Word u a) v s k h g =
    let e : Imm u ≡ Imm w = g.type in
    let f : u ≡ w = cc in
    let n = length-bytes_in z big v in
    rw h.type
    (append_keeps room (head_of c) a (value_bytes z big v) k (rw f at g.sound.width) (head_link L c h) (omega arith) (rw f at g.sound.fits))
store_keeps big c (Unknown t) v s k h g = stores stay k (record { sound = type_ok c h.sound; type = h.type; head = tt })
store_keeps big c (Memory u head) v s k h g = stores stay k (record { sound = type_ok c h.sound; type = h.type; head = tt })
