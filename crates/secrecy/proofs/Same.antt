-- Values that are the same in two logs and stay so as the logs go on, and the operations on them. Assumes nothing.
use mathlib.Core.Path.{◌≡◌, refl, sym, ap, ◌∙◌}
use mathlib.Core.Bool.{Bool, true, false}
use mathlib.Core.Option.{Option, none, some}
use Prim.Native.Nat.{ℕ, ◌/◌, ◌≤◌}
use native.Mathlib.Omega.{arith}
use lib.Dec.{eqb}
use lib.ListN.{length}
use Rattle.std.specs.Prelude.{if◌then◌else◌}
use Rattle.base.proofs.BoolLaws.{impossible}
use Rattle.std.specs.Prelude as std
use Rattle.word.specs.Subs as Subs
use Rattle.value.specs.declared.ValueType.{ValueType}
use Rattle.value.specs.declared.ValueType.TheVariants.{Mem}
use Rattle.value.specs.declared.Value.{Value}
use Rattle.value.specs.declared.Value.TheVariants.{Word, Unknown, Memory}
use Rattle.value.specs.Values as Values
use Rattle.value.specs.Values.{type_of, computed}
use Rattle.memory.specs.Log.{Log, chain}
use Rattle.memory.specs.Access.{head_of, load, loaded, join, in_order, bytes_from, bytes_in}
use Rattle.memory.proofs.LogLaws.{◌⊑◌, stay, ⊑_trans, ⊑_length, chain_keeps, chain_zero}
use Rattle.evaluation.specs.State.{value_of, kind_of, number_of}
use Rattle.secrecy.specs.Agreement.{memory, content}

-- ------------------------------------------------------------------------------------------------
-- The same value, whose heads both logs have

pub data Same (L M : Log) : Value → Value → Type 0 where
  same_word : {w v : ℕ} → Same L M (Word w v) (Word w v)
  same_unknown : {t : ValueType} → Same L M (Unknown t) (Unknown t)
  same_memory : {w h k : ℕ} → h ≤ length L → k ≤ length M → chain L h ≡ chain M k → Same L M (Memory w h) (Memory w k)

pub same_content : {L M : Log} {u v : Value} → Same L M u v → content L u ≡ content M v
unfolding content
same_content same_word = refl
same_content same_unknown = refl
same_content (same_memory {w = w} p q c) = ap (memory w) c

pub content_same : (L M : Log) (u v : Value) → head_of u ≤ length L → head_of v ≤ length M → content L u ≡ content M v → Same L M u v
unfolding content head_of
content_same L M (Word w a) (Word v b) p q e = let x : w ≡ v = cc in let y : a ≡ b = cc in rw (x, y) same_word
content_same L M (Word w a) (Unknown t) p q e = impossible (cc)
content_same L M (Word w a) (Memory v k) p q e = impossible (cc)
content_same L M (Unknown t) (Word v b) p q e = impossible (cc)
content_same L M (Unknown t) (Unknown u) p q e = let x : t ≡ u = cc in rw x same_unknown
content_same L M (Unknown t) (Memory v k) p q e = impossible (cc)
content_same L M (Memory w h) (Word v b) p q e = impossible (cc)
content_same L M (Memory w h) (Unknown u) p q e = impossible (cc)
content_same L M (Memory w h) (Memory v k) p q e = let x : w ≡ v = cc in rw x (same_memory p q (cc))

-- ------------------------------------------------------------------------------------------------
-- Two logs that go on and have as many entries as one another

pub record Onward (L M L' M' : Log) : Type 0 where
  pub first : L ⊑ L'
  pub second : M ⊑ M'
  pub counts : length L' ≡ length M'

pub here : {L M : Log} → length L ≡ length M → Onward L M L M
here l = record { first = stay; second = stay; counts = l }

pub onward_trans : {L M L' M' L'' M'' : Log} → Onward L M L' M' → Onward L' M' L'' M'' → Onward L M L'' M''
onward_trans o p = record { first = ⊑_trans o.first p.first; second = ⊑_trans o.second p.second; counts = p.counts }

pub same_keeps : {L M L' M' : Log} {u v : Value} → Onward L M L' M' → Same L M u v → Same L' M' u v
same_keeps o same_word = same_word
same_keeps o same_unknown = same_unknown
same_keeps o (same_memory {h = h} {k = k} p q c) =
    let x = ⊑_length o.first in
    let y = ⊑_length o.second in
    same_memory {h = h} {k = k} (omega arith) (omega arith) (chain_keeps h p o.first ∙ c ∙ sym (chain_keeps k q o.second))

-- ------------------------------------------------------------------------------------------------
-- What the same values share, and what operations make of them

module _ {L M : Log} where
  pub same-type : {u v : Value} → Same L M u v → type_of u ≡ type_of v
  same-type same_word = refl
  same-type same_unknown = refl
  same-type (same_memory p q c) = refl

  pub same_bytes : (z : ℕ) (big : Bool) {u v : Value} → Same L M u v → bytes_in z big u ≡ bytes_in z big v
  unfolding bytes_in
  same_bytes z big same_word = refl
  same_bytes z big same_unknown = refl
  same_bytes z big (same_memory p q c) = refl

  pub same_heads : {u v : Value} → Same L M u v → (head_of u ≤ length L) × (head_of v ≤ length M) × (chain L (head_of u) ≡ chain M (head_of v))
  unfolding head_of
  same_heads same_word = (omega arith, omega arith, chain_zero L ∙ sym (chain_zero M))
  same_heads same_unknown = (omega arith, omega arith, chain_zero L ∙ sym (chain_zero M))
  same_heads (same_memory p q c) = (p, q, c)

  pub same_unknowns : {t u : ValueType} → t ≡ u → Same L M (Unknown t) (Unknown u)
  same_unknowns e = rw e same_unknown

  pub same_memories : {w v h k : ℕ} → w ≡ v → h ≤ length L → k ≤ length M → chain L h ≡ chain M k → Same L M (Memory w h) (Memory v k)
  same_memories e p q c = rw e (same_memory p q c)

  same_computed : (w : ℕ) (c : std.Option ℕ) → Same L M (computed w c) (computed w c)
  same_computed w (std.Some r) = same_word
  same_computed w std.None = same_unknown

  same_loaded : (z : ℕ) (o : Option ℕ) → Same L M (loaded z o) (loaded z o)
  unfolding loaded
  same_loaded z none = same_unknown
  same_loaded z (some v) = same_word

  pub same_load : (z : ℕ) (big : Bool) {u v a b : Value} → Same L M u v → Same L M a b → Same L M (load L z big u a) (load M z big v b)
  unfolding load
  same_load z big same_word s = same_unknown
  same_load z big same_unknown s = same_unknown
  same_load z big (same_memory {w = w} {k = k} p q c) (same_word {v = a}) =
      rw c (same_loaded z (join (in_order big (bytes_from (chain M k) w (z / 8) a))))
  same_load z big (same_memory p q c) same_unknown = same_unknown
  same_load z big (same_memory p q c) (same_memory p' q' c') = same_unknown

  pub same_binary : (sub : ℕ) {u v a b : Value} → Same L M u v → Same L M a b → Same L M (Values.binary sub u a) (Values.binary sub v b)
  same_binary sub (same_word {w = w} {v = x}) (same_word {v = y}) = same_computed (Subs.binary_width sub w) (Subs.binary sub w x y)
  same_binary sub same_word same_unknown = same_unknown
  same_binary sub same_word (same_memory p q c) = same_unknown
  same_binary sub same_unknown s = same_unknown
  same_binary sub (same_memory p q c) s = same_unknown

  pub same_unary : (sub : ℕ) {u v : Value} → Same L M u v → Same L M (Values.unary sub u) (Values.unary sub v)
  same_unary sub (same_word {w = w} {v = x}) = same_computed w (Subs.unary sub w x)
  same_unary sub same_unknown = same_unknown
  same_unary sub (same_memory p q c) = same_unknown

  pub same_cast : (sub p : ℕ) {u v : Value} → Same L M u v → Same L M (Values.cast sub p u) (Values.cast sub p v)
  same_cast sub p (same_word {w = w} {v = x}) = same_computed p (Subs.cast sub w p x)
  same_cast sub p same_unknown = same_unknown
  same_cast sub p (same_memory h k c) = same_unknown

  pub same_extract : (p q : ℕ) {u v : Value} → Same L M u v → Same L M (Values.extract p q u) (Values.extract p q v)
  same_extract p q same_word = same_word
  same_extract p q same_unknown = same_unknown
  same_extract p q (same_memory h k c) = same_unknown

  pub same_concat : {u v a b : Value} → Same L M u v → Same L M a b → Same L M (Values.concat u a) (Values.concat v b)
  same_concat same_word same_word = same_word
  same_concat same_word same_unknown = same_unknown
  same_concat same_word (same_memory p q c) = same_unknown
  same_concat (same_unknown {t = t}) s = same_unknowns (ap (Values.concat_type t) (same-type s))
  same_concat (same_memory {w = w} p q c) s = same_unknowns (ap (Values.concat_type (Mem w)) (same-type s))

  pub same_choose : {c d u v a b : Value} → Same L M c d → Same L M u v → Same L M a b → Same L M (Values.choose c u a) (Values.choose d v b)
  same_choose {u = u} {v = v} {a = a} {b = b} (same_word {v = x}) s r =
      elim (eqb x 1) as (λ t. Same L M (if t then u else a) (if t then v else b)) [ true ↦ s | false ↦ r ]
  same_choose same_unknown s r = same_unknowns (same-type s)
  same_choose (same_memory p q c) s r = same_unknowns (same-type s)

  -- the value read back by a variable's type
  pub same_stored : (t : ValueType) {u v : Value} → Same L M u v → Same L M (value_of t (kind_of u) (number_of u)) (value_of t (kind_of v) (number_of v))
  unfolding value_of kind_of number_of
  same_stored t same_word = same_word
  same_stored t same_unknown = same_unknown
  same_stored t (same_memory p q c) = same_memory p q c
