-- Values of a type in a log, and what operations on them give. Assumes nothing.
use mathlib.Core.Path.{◌≡◌, refl, sym, ap, ap₂, subst, ◌∙◌}
use mathlib.Core.Bool.{true, false}
use Prim.Native.Nat.{ℕ, ◌+◌, ◌-◌, ◌≤◌}
use native.Mathlib.Omega.{arith}
use lib.Dec.{eqb}
use Rattle.std.specs.Prelude.{if◌then◌else◌}
use Rattle.base.proofs.BoolLaws.{impossible}
use Rattle.word.specs.Words.{Width}
use Rattle.word.specs.Subs as Subs
use Rattle.value.specs.declared.ValueType.{ValueType}
use Rattle.value.specs.declared.ValueType.TheVariants.{Imm}
use Rattle.value.specs.declared.Value.{Value}
use Rattle.value.specs.declared.Value.TheVariants.{Word, Unknown, Memory}
use Rattle.value.specs.Values as Values
use Rattle.value.specs.Values.{TypeOk, Sound, type_of, size}
use Rattle.value.proofs.ValueLaws as Laws
use Rattle.memory.specs.Log.{Log}
use Rattle.memory.proofs.LogLaws.{◌⊑◌}
use Rattle.memory.specs.Typed.{HeadOk, Has}
use Rattle.memory.proofs.LogRules.{head_stays}

-- ------------------------------------------------------------------------------------------------
-- Values of a type, in a log

pub has_stays : {L M : Log} {v : Value} {t : ValueType} → L ⊑ M → Has L v t → Has M v t
has_stays {L} {M} {v} p h = record { sound = h.sound; type = h.type; head = go v h.head }
  where
    go : (v : Value) → HeadOk L v → HeadOk M v
    go (Word w a) k = k
    go (Unknown t) k = k
    go (Memory w head) k = head_stays p k

-- an immediate has no head
pub has_imm : (L : Log) (v : Value) {w : ℕ} → Sound v → type_of v ≡ Imm w → Has L v (Imm w)
has_imm L v {w} s e = record { sound = s; type = e; head = go v e }
  where
    go : (v : Value) → type_of v ≡ Imm w → HeadOk L v
    go (Word v a) k = tt
    go (Unknown t) k = tt
    go (Memory v head) k = impossible (cc)

pub has_word : {L : Log} {w a : ℕ} → Sound (Word w a) → Has L (Word w a) (Imm w)
has_word s = record { sound = s; type = refl; head = tt }

pub has_unknown : {L : Log} {t : ValueType} → TypeOk t → Has L (Unknown t) t
has_unknown s = record { sound = s; type = refl; head = tt }

-- ------------------------------------------------------------------------------------------------
-- Operations

pub has_binary : {L : Log} (sub : ℕ) (x y : Value) {w : ℕ} → Has L x (Imm w) → Has L y (Imm w) → Has L (Values.binary sub x y) (Imm (Subs.binary_width sub w))
has_binary {L} sub x y p q =
    has_imm L (Values.binary sub x y) (Laws.binary_sound sub x y p.sound q.sound (p.type ∙ sym q.type))
    (Laws.binary-type sub x y ∙ ap (Values.binary_type sub) p.type)

pub has_unary : {L : Log} (sub : ℕ) (x : Value) {w : ℕ} → Has L x (Imm w) → Has L (Values.unary sub x) (Imm w)
has_unary {L} sub x p =
    has_imm L (Values.unary sub x) (Laws.unary_sound sub x p.sound) (Laws.unary_type sub x ∙ ap (λ (t : ValueType). Imm (size t)) p.type)

pub has_cast : {L : Log} (sub p : ℕ) (x : Value) {w : ℕ} → Width p → Subs.CastFits sub w p → Has L x (Imm w) → Has L (Values.cast sub p x) (Imm p)
has_cast {L} sub p x {w} h f k =
    has_imm L (Values.cast sub p x)
    (Laws.cast_sound sub p x k.sound h (subst (λ (t : ValueType). Subs.CastFits sub (size t) p) (sym k.type) f)) (Laws.cast-type sub p x)

pub has_extract : {L : Log} (p q : ℕ) (x : Value) → q ≤ p → p ≤ q + 63 → Has L (Values.extract p q x) (Imm (p - q + 1))
has_extract {L} p q x l h = has_imm L (Values.extract p q x) (Laws.extract_sound p q x l h) (Laws.extract-type p q x)

pub has_concat : {L : Log} (x y : Value) {w v : ℕ} → w + v ≤ 64 → Has L x (Imm w) → Has L y (Imm v) → Has L (Values.concat x y) (Imm (w + v))
has_concat {L} x y {w} {v} h p q =
    let e : size (type_of x) + size (type_of y) ≡ w + v = ap₂ (λ (t u : ValueType). size t + size u) p.type q.type in
    has_imm L (Values.concat x y) (Laws.concat_sound x y p.sound q.sound (omega arith))
    (Laws.concat-type x y ∙ ap₂ Values.concat_type p.type q.type)

pub has_choose : {L : Log} (c x y : Value) {t : ValueType} → Has L x t → Has L y t → Has L (Values.choose c x y) t
has_choose {L} c x y p q =
    record { sound = Laws.choose_sound c x y p.sound q.sound; type = Laws.choose_type c x y (p.type ∙ sym q.type) ∙ p.type; head = go c }
  where
    go : (c : Value) → HeadOk L (Values.choose c x y)
    go (Word w a) = elim (eqb a 1) as (λ t. HeadOk L (if t then x else y)) [ true ↦ p.head | false ↦ q.head ]
    go (Unknown t) = tt
    go (Memory w head) = tt
