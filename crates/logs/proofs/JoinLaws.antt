-- Bytes joined in their order as they are read, and the loads that this makes. Assumes nothing.
use Rattle.std.proofs.Common.{◌≡◌, ℕ, suc, ◌+◌, ◌-◌, ◌*◌, ◌/◌, ◌%◌, ◌^◌, ◌<◌, ◌≤◌, Bool, true, false, ltb, List, [], ◌∷◌, ◌++◌, reverse, length, sym, refl, ap, ◌∙◌, append_assoc, append-nil, arith, length-append, pow-add, pow_mono, shl_exact, le-ltb, lt-ltb}
use native.Mathlib.Nat.{mul-le-mul_right}
use mathlib.Core.List.{reverse-cons, reverse-append}
use mathlib.Core.Option.{Option, none, some}
use Rattle.std.specs.Prelude.{if◌then◌else◌}
use Rattle.base.proofs.BoolLaws.{impossible}
use Rattle.value.specs.declared.Value.TheVariants.{Word, Memory}
use Rattle.memory.specs.Log.{Log, Cell, chain, unknown_byte}
use Rattle.memory.specs.Access.{succ, in_order, byte_at, bytes_from, join, loaded, load}
use Rattle.memory.proofs.AccessLaws.{length-in_order}
use Rattle.memory.proofs.AccessKeeps.{join_fits}
use Rattle.logs.specs.Joining.{Joins}

-- ------------------------------------------------------------------------------------------------
-- One byte more

-- below those that are there
join_low : (l : List ℕ) (v b : ℕ) → b < unknown_byte → join l ≡ some v → join (b ∷ l) ≡ some (b + 256 * v)
unfolding join
join_low l v b k e = rw (e, lt-ltb b unknown_byte k, join)

-- above those that are there
join_high : (l : List ℕ) (v b : ℕ) → b < unknown_byte → join l ≡ some v → join (l ++ (b ∷ [])) ≡ some (b * 2 ^ (8 * length l) + v)
unfolding join
join_high [] v b k e = let z : 0 ≡ v = cc in rw (lt-ltb b unknown_byte k, ← z) (ap some (omega arith))
join_high (x ∷ l) v b k e = go (join l) refl (ltb x unknown_byte) refl (λ u. join_high l u b k) e
  where
    go :
        (o : Option ℕ) → join l ≡ o → (t : Bool) → ltb x unknown_byte ≡ t
        → ((u : ℕ) → join l ≡ some u → join (l ++ (b ∷ [])) ≡ some (b * 2 ^ (8 * length l) + u))
        → elim o as (λ o. Option ℕ) [ none ↦ none | some u ↦ if t then some (x + 256 * u) else none ] ≡ some v
        → join (x ∷ (l ++ (b ∷ []))) ≡ some (b * 2 ^ (8 * suc (length l)) + v)
    go none p t q ih h = impossible (cc)
    go (some u) p false q ih h = impossible (cc)
    go (some u) p true q ih h =
        let is : x + 256 * u ≡ v = cc in
        let n : 8 * suc (length l) ≡ 8 + 8 * length l = omega arith in
        rw (ih u p, q, join, ← is, n, pow-add 2 8 (8 * length l)) (ap some (omega arith))

-- an unknown byte, wherever it stands
join_unknown : (p q : List ℕ) (b : ℕ) → unknown_byte ≤ b → join (p ++ (b ∷ q)) ≡ none
unfolding join
join_unknown [] q b k = go (join q)
  where
    go : (o : Option ℕ)
        → ◌≡◌ {A = Option ℕ} (elim o as (λ o. Option ℕ) [ none ↦ none | some v ↦ if ltb b unknown_byte then some (b + 256 * v) else none ]) none
    go none = refl
    go (some v) = rw (le-ltb b unknown_byte k)
join_unknown (x ∷ p) q b k = rw (join_unknown p q b k, join)

-- ------------------------------------------------------------------------------------------------
-- The room of eight bytes

-- below 2^56 where a byte follows
pub bytes_below : (i : ℕ) → i < 8 → 2 ^ (8 * i) ≤ 2 ^ 56
bytes_below i h = pow_mono {i = 8 * i} {j = 56} (omega arith)

-- a byte above i others, and they
pub byte_above : (b i : ℕ) → b < unknown_byte → i < 8 → b * 2 ^ (8 * i) + 2 ^ (8 * i) ≤ 2 ^ 64
byte_above b i k h =
    let most = bytes_below i h in
    let whole = mul-le-mul_right {m = b + 1} {n = 256} (2 ^ (8 * i)) (omega arith) in
    omega arith

-- ------------------------------------------------------------------------------------------------
-- In either order

-- the last byte read is the lowest of a big word
pub joins_big : (i v b : ℕ) → b < unknown_byte → Joins true i v b (v * 256 + b)
unfolding in_order
joins_big i v b k = record {
  is = λ bytes n e.
      ap join (reverse-append bytes (b ∷ []))
      ∙ join_low (reverse bytes) v b k e
      ∙ ap some (omega arith);
}

-- and the highest of a little one
pub joins_little : (i v b : ℕ) → b < unknown_byte → Joins false i v b (b * 2 ^ (8 * i) + v)
unfolding in_order
joins_little i v b k = record { is = λ bytes n e. join_high bytes v b k e ∙ ap (λ (m : ℕ). some (b * 2 ^ (8 * m) + v)) n }

-- as they are computed, eight bytes at most
pub joins_first : (big : Bool) (i v b : ℕ) → b < unknown_byte → big ≡ true → Joins big i v b (v * 256 + b)
joins_first big i v b k e = rw e (joins_big i v b k)

pub joins_last : (big : Bool) (i v b : ℕ) → b < unknown_byte → i < 8 → big ≡ false → Joins big i v b (b * 2 ^ (8 * i) % 2 ^ 64 + v)
joins_last big i v b k h e =
    let none_lost : b * 2 ^ (8 * i) % 2 ^ 64 ≡ b * 2 ^ (8 * i) = shl_exact {a = b} 8 (8 * i) 64 k (omega arith) in
    rw (e, none_lost) (joins_little i v b k)

order_unknown : (big : Bool) (p q : List ℕ) (b : ℕ) → unknown_byte ≤ b → join (in_order big (p ++ (b ∷ q))) ≡ none
unfolding in_order
order_unknown false p q b k = join_unknown p q b k
order_unknown true p q b k =
    ap join
    (reverse-append p (b ∷ q)
    ∙ ap (λ (l : List ℕ). l ++ reverse p) (reverse-cons b q)
    ∙ append_assoc (reverse q) (b ∷ []) (reverse p))
    ∙ join_unknown (reverse q) (reverse p) b k

-- ------------------------------------------------------------------------------------------------
-- Reading on

-- of n bytes from address a on, i were read and make v; the next stands at the address `at`
pub record Reading (cells : List Cell) (w n a : ℕ) (big : Bool) (i at v : ℕ) : Type 0 where
  pub bytes : List ℕ
  pub many : length bytes ≡ i
  pub split : bytes_from cells w n a ≡ bytes ++ bytes_from cells w (n - i) at
  pub joined : join (in_order big bytes) ≡ some v

join_none : (big : Bool) → join (in_order big []) ≡ some 0
unfolding join in_order
join_none true = refl
join_none false = refl

module _ (cells : List Cell) (w n a : ℕ) (big : Bool) where
  pub reading_starts : Reading cells w n a big 0 a 0
  reading_starts = record { bytes = []; many = refl; split = ap (λ (m : ℕ). bytes_from cells w m a) (omega arith); joined = join_none big }

  module _ {i at v : ℕ} (r : Reading cells w n a big i at v) where
    pub reading_fits : v < 2 ^ (8 * i)
    reading_fits = rw (length-in_order big r.bytes, r.many) at (join_fits (in_order big r.bytes) v r.joined)

    -- the bytes to come, the next first
    next : i < n → bytes_from cells w n a ≡ r.bytes ++ (byte_at cells at ∷ bytes_from cells w (n - (i + 1)) (succ w at))
    unfolding bytes_from
    next k =
        let e : n - i ≡ suc (n - (i + 1)) = omega arith in
        r.split ∙ ap (λ (m : ℕ). r.bytes ++ bytes_from cells w m at) e

    pub reading_stops : i < n → unknown_byte ≤ byte_at cells at → join (in_order big (bytes_from cells w n a)) ≡ none
    reading_stops k u = ap (λ (l : List ℕ). join (in_order big l)) (next k) ∙ order_unknown big r.bytes _ (byte_at cells at) u

    pub reading_on : i < n → {x : ℕ} → Joins big i v (byte_at cells at) x → Reading cells w n a big (i + 1) (succ w at) x
    reading_on k {x} j = record {
      bytes = r.bytes ++ (byte_at cells at ∷ []);
      many = length-append r.bytes (byte_at cells at ∷ []) ∙ ap (λ (m : ℕ). m + 1) r.many;
      split = next k ∙ sym (append_assoc r.bytes (byte_at cells at ∷ []) _);
      joined = j.is r.bytes r.many r.joined;
    }

    pub reading_ends : n ≤ i → join (in_order big (bytes_from cells w n a)) ≡ some v
    unfolding bytes_from
    reading_ends k =
        let e : n - i ≡ 0 = omega arith in
        ap (λ (l : List ℕ). join (in_order big l)) (r.split ∙ ap (λ (m : ℕ). r.bytes ++ bytes_from cells w m at) e ∙ append-nil r.bytes)
        ∙ r.joined

-- ------------------------------------------------------------------------------------------------
-- The load that was read

module _ (L : Log) (z : ℕ) (big : Bool) (w head v a : ℕ) {o : Option ℕ} where
  pub load_joined : join (in_order big (bytes_from (chain L head) w (z / 8) a)) ≡ o → loaded z o ≡ load L z big (Memory w head) (Word v a)
  unfolding load
  load_joined e = ap (loaded z) (sym e)
