-- Bytes appended one after the other to the log that a buffer holds. Assumes nothing.
use Rattle.std.proofs.Common.{◌≡◌, ℕ, suc, ◌+◌, ◌*◌, ◌/◌, ◌<◌, ◌≤◌, Bool, true, false, List, ◌∷◌, length, get_or, drop, sym, refl, ap, subst, ◌∙◌, arith, drop_of_length-le, drop-cons, le-ltb, lt-ltb}
use lib.Seq.{sets, length-sets}
use Rattle.std.specs.Prelude.{Result, Ok, Err}
use Rattle.std.specs.Result.{IsErr}
use Rattle.base.proofs.BoolLaws.{impossible}
use Rattle.value.specs.declared.Value.{Value}
use Rattle.value.specs.declared.Value.TheVariants.{Word, Unknown, Memory}
use Rattle.value.specs.Values.{type_of, size}
use Rattle.memory.specs.declared.Full.{Full}
use Rattle.memory.specs.declared.LogBuffer.{LogBuffer}
use Rattle.memory.specs.Log.{Log, entry_size, fields_of}
use Rattle.memory.specs.Buffer.{held, room_of, Becomes, Pushed}
use Rattle.memory.specs.Access as Access
use Rattle.memory.specs.Access.{Stored, stored, append, store, bytes_in, head_of, succ}
use Rattle.memory.proofs.LogLaws.{length-entries}
use Rattle.memory.proofs.AccessKeeps.{length-bytes_in}
use Rattle.memory.proofs.AccessLaws.{entry, append_fits, append_full}
use Rattle.logs.specs.Storing.{Leaves, answer, log_in}
use Rattle.logs.proofs.HoldingLaws.{holding_entries, holding_newer}

-- a buffer becomes what it is
pub becomes_same : (b : LogBuffer) → entry_size * b.count ≤ length b.numbers.now → Becomes b (held b) b
becomes_same b h = record {
  count = sym (length-entries b.numbers.now b.count);
  holds = sym (holding_entries b.numbers.now b.count h);
  same = refl;
}

-- of a store x of these bytes into buffer b, i were appended: the buffer is c, and the bytes to come, appended to the log that it
-- holds, make x
pub record Appending (b : LogBuffer) (w : ℕ) (bytes : List ℕ) (x : Stored) (c : LogBuffer) (newest at i : ℕ) : Type 0 where
  pub log : Log
  pub becomes : Becomes b log c
  pub fits : entry_size * c.count ≤ length b.numbers.now
  pub long : length c.numbers.now ≡ length b.numbers.now
  pub makes : x ≡ append (room_of b) w (drop i bytes) newest at log

pub appending_starts : (b : LogBuffer) (w : ℕ) (bytes : List ℕ) (head a : ℕ) → entry_size * b.count ≤ length b.numbers.now
    → Appending b w bytes (append (room_of b) w bytes head a (held b)) b head a 0
appending_starts b w bytes head a h = record { log = held b; becomes = becomes_same b h; fits = h; long = refl; makes = refl }

-- there is one refusal
is_full : (r : Result Value Full) → IsErr r → r ≡ Err (record {})
is_full (Ok v) h = let e : false ≡ true = h in impossible (cc)
is_full (Err f) h = refl

-- a store that ended in a log
leaves_log : {b c : LogBuffer} (x y : Stored) → x ≡ y → Becomes b (log_in y) c → Leaves b x (answer y) c
leaves_log {b} {c} x y e h = record { is = ap answer (sym e); log = subst (λ (y : Stored). Becomes b (log_in y) c) (sym e) h }

module _ (b : LogBuffer) (w : ℕ) (bytes : List ℕ) (x : Stored) {c : LogBuffer} {newest at i : ℕ} (p : Appending b w bytes x c newest at i) where
  pub appending_long : length c.numbers.now ≡ length b.numbers.now
  appending_long = p.long

  pub appending_room : entry_size * c.count ≤ length c.numbers.now
  appending_room =
      let n = p.long in
      let f = p.fits in
      omega arith

  same_room : room_of c ≡ room_of b
  same_room = ap (λ (n : ℕ). n / entry_size) p.long

  -- the byte to come
  next : i < length bytes → x ≡ append (room_of b) w (get_or bytes i 0 ∷ drop (suc i) bytes) newest at p.log
  next k = p.makes ∙ ap (λ (more : List ℕ). append (room_of b) w more newest at p.log) (drop-cons bytes i 0 k)

  module _ (k : i < length bytes) {byte : ℕ} (is : byte ≡ get_or bytes i 0) {d : LogBuffer} where
    pub appending_stops : {r : Result Value Full} → (room_of c ≤ c.count) × (d ≡ c) → IsErr r → Leaves b x r d
    appending_stops {r} h e =
        let n = p.becomes.count in
        let s = same_room in
        let none = next k ∙ append_full (room_of b) w (get_or bytes i 0) (drop (suc i) bytes) newest at p.log (le-ltb (length p.log) (room_of b) (omega arith)) in
        rw (is_full r e, h.1) (leaves_log x (Access.full p.log) none p.becomes)

    pub appending_on : (c.count < room_of c) × Pushed c (entry w newest at byte) d → Appending b w bytes x d d.count (succ w at) (i + 1)
    appending_on h =
        let free = h.0 in
        let count = h.1.count in
        let n = p.becomes.count in
        let f = p.fits in
        let s = same_room in
        let long = p.long in
        let new = entry w newest at (get_or bytes i 0) in
        let one : suc (length p.log) ≡ d.count = omega arith in
        let step : suc i ≡ i + 1 = omega arith in
        record {
          log = new ∷ p.log;
          becomes = record {
            count = sym one;
            holds =
                h.1.numbers
                ∙ ap (λ (byte : ℕ). sets c.numbers.now (entry_size * c.count) (fields_of (entry w newest at byte))) is
                ∙ ap (λ (q : ℕ). sets c.numbers.now (entry_size * q) (fields_of new)) n
                ∙ ap (λ (q : List ℕ). sets q (entry_size * length p.log) (fields_of new)) p.becomes.holds
                ∙ holding_newer b.numbers.now p.log new (omega arith);
            same = h.1.same ∙ p.becomes.same;
          };
          fits = omega arith;
          long = ap length h.1.numbers ∙ length-sets c.numbers.now (entry_size * c.count) (fields_of (entry w newest at byte)) ∙ p.long;
          makes =
              next k
              ∙ append_fits (room_of b) w (get_or bytes i 0) (drop (suc i) bytes) newest at p.log (lt-ltb (length p.log) (room_of b) (omega arith))
              ∙ ap (λ (q : ℕ). append (room_of b) w (drop (suc i) bytes) q (succ w at) (new ∷ p.log)) one
              ∙ ap (λ (q : ℕ). append (room_of b) w (drop q bytes) d.count (succ w at) (new ∷ p.log)) step;
        }

  pub appending_ends : length bytes ≤ i → Leaves b x (Ok (Memory w newest)) c
  unfolding append
  appending_ends k =
      let e = p.makes ∙ ap (λ (more : List ℕ). append (room_of b) w more newest at p.log) (drop_of_length-le bytes k) in
      leaves_log x (stored (Memory w newest) p.log) e p.becomes

-- ------------------------------------------------------------------------------------------------
-- A store of z bits, byte by byte: a law for each way that its loop goes, whatever the ways are called

-- a push of the byte to come
pub push_on :
    (b : LogBuffer) (w z : ℕ) (big : Bool) (value : Value) (x : Stored) {c d : LogBuffer} {newest at next i byte : ℕ}
    → Appending b w (bytes_in z big value) x c newest at i → i < z / 8 → byte ≡ get_or (bytes_in z big value) i 0 → c.count < room_of c
    → Pushed c (entry w newest at byte) d → next ≡ succ w at → Appending b w (bytes_in z big value) x d d.count next (i + 1)
push_on b w z big value x p more is free pushed up =
    let n = length-bytes_in z big value in
    rw up (appending_on b w (bytes_in z big value) x p (omega arith) is (free, pushed))

-- where the log has no room for it, or none is to come
module _ (room w z : ℕ) (big : Bool) (value : Value) (newest at : ℕ) (L : Log) (i : ℕ) where
  pub push_full : i < z / 8 → room ≤ length L → append room w (drop i (bytes_in z big value)) newest at L ≡ Access.full L
  push_full more none =
      let n = length-bytes_in z big value in
      let k : i < length (bytes_in z big value) = omega arith in
      let bytes = bytes_in z big value in
      ap (λ (more : List ℕ). append room w more newest at L) (drop-cons bytes i 0 k)
      ∙ append_full room w (get_or bytes i 0) (drop (suc i) bytes) newest at L (le-ltb (length L) room none)

  pub push_ends : z / 8 ≤ i → append room w (drop i (bytes_in z big value)) newest at L ≡ stored (Memory w newest) L
  unfolding append
  push_ends none =
      let n = length-bytes_in z big value in
      ap (λ (more : List ℕ). append room w more newest at L) (drop_of_length-le (bytes_in z big value) (omega arith))

pub ruleset appends = (push_on, push_full, push_ends)

-- ------------------------------------------------------------------------------------------------
-- A store, by what its address is

module _ (room : ℕ) (L : Log) (z : ℕ) (big : Bool) (m v : Value) {a : Value} where
  pub store_appends : {w u x head : ℕ} → a ≡ Word w x → size (type_of m) ≡ u → head ≡ head_of m
      → append room u (bytes_in z big v) head x L ≡ store room L z big m a v
  unfolding store
  store_appends e s h = rw (e, store, s, h)

  pub store_elsewhere : ((w x : ℕ) → a ≡ Word w x → ⊥) → store room L z big m a v ≡ stored (Unknown (type_of m)) L
  unfolding store
  store_elsewhere never = go a never
    where
      go : (a : Value) → ((w x : ℕ) → a ≡ Word w x → ⊥) → store room L z big m a v ≡ stored (Unknown (type_of m)) L
      go (Word w x) never = absurd (never w x refl)
      go (Unknown t) never = refl
      go (Memory w head) never = refl

-- a memory's head; any other value has none
pub head_other : (m : Value) → ((w head : ℕ) → m ≡ Memory w head → ⊥) → 0 ≡ head_of m
unfolding head_of
head_other (Word w x) never = refl
head_other (Unknown t) never = refl
head_other (Memory w head) never = absurd (never w head refl)

-- a store that appends nothing
pub leaves_all : {b : LogBuffer} {x : Stored} {v r : Value} → entry_size * b.count ≤ length b.numbers.now → x ≡ stored v (held b) → r ≡ v
    → Leaves b x (Ok r) b
leaves_all {b} {x} {v} h e k = rw (← k) at (leaves_log x (stored v (held b)) e (becomes_same b h))
