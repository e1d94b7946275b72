-- What the operations on values give is sound and has the type that the type rules say. Assumes nothing.
use Rattle.std.proofs.Common.{◌≡◌, refl, sym, ap, subst, ◌∙◌, true, false, ℕ, ◌+◌, ◌-◌, ◌/◌, ◌^◌, ◌<◌, ◌≤◌, eqb, leb, lit≤, arith, if◌then◌else◌, Option, Some, None}
use Rattle.word.specs.Words.{Width, IsWord, AreWords, FitsIn}
use Rattle.word.proofs.FitLaws.{mod_fits, concat_fits}
use Rattle.word.proofs.SubLaws.{binary_fits, unary_fits, cast_fits}
use Rattle.word.specs.Subs as Subs
use Rattle.value.specs.declared.ValueType.{ValueType}
use Rattle.value.specs.declared.ValueType.TheVariants.{Imm, Mem}
use Rattle.value.specs.declared.Value.{Value}
use Rattle.value.specs.declared.Value.TheVariants.{Word, Unknown, Memory}
use Rattle.value.specs.Values as Values
use Rattle.value.specs.Values.{TypeOk, Sound, Yields, type_of, size}

-- ------------------------------------------------------------------------------------------------
-- Types

-- a sound value's type is one that there is
pub type_ok : (x : Value) → Sound x → TypeOk (type_of x)
type_ok (Word w a) s = s.width
type_ok (Unknown t) s = s
type_ok (Memory w head) s = s

pub size_ok : (t : ValueType) → TypeOk t → Width (size t)
size_ok (Imm w) s = s
size_ok (Mem w) s = s

pub binary_width-ok : (sub w : ℕ) → Width w → Width (Subs.binary_width sub w)
binary_width-ok sub w h =
    elim (leb sub 13) as (λ t. Width (if t then w else 1)) [ true ↦ h | false ↦ record { least = lit≤ tt; most = lit≤ tt } ]

-- ------------------------------------------------------------------------------------------------
-- What an operation promises, from an equation

-- a value that is another, which is sound and of type t
pub yields : (t : ValueType) (x : Value) → Sound x → type_of x ≡ t → (r : Value) → r ≡ x → Yields t x r
yields t x s h r e = record { is = e; sound = subst Sound (sym e) s; type = ap type_of e ∙ h }

pub computed_sound : (w : ℕ) (c : Option ℕ) → Width w → FitsIn w c → Sound (Values.computed w c)
computed_sound w (Some r) h f = record { width = h; fits = f }
computed_sound w None h f = h

pub computed_type : (w : ℕ) (c : Option ℕ) → type_of (Values.computed w c) ≡ Imm w
computed_type w (Some r) = refl
computed_type w None = refl

-- ------------------------------------------------------------------------------------------------
-- Op 5, binary

-- two words whose types are the same have one width
pub same_width : (x y : Value) {w v a b : ℕ} → x ≡ Word w a → y ≡ Word v b → type_of x ≡ type_of y → w ≡ v
same_width x y {w} {v} p q h = let e : Imm w ≡ Imm v = sym (ap type_of p) ∙ h ∙ ap type_of q in cc

pub are_words : {w v a b : ℕ} → IsWord w a → IsWord v b → w ≡ v → AreWords w a b
are_words {b = b} s r e = record { width = s.width; left = s.fits; right = subst (λ (n : ℕ). b < 2 ^ n) (sym e) r.fits }

pub binary_sound : (sub : ℕ) (x y : Value) → Sound x → Sound y → type_of x ≡ type_of y → Sound (Values.binary sub x y)
binary_sound sub (Word w a) (Word v b) s r e =
    computed_sound (Subs.binary_width sub w) (Subs.binary sub w a b) (binary_width-ok sub w s.width)
    (binary_fits sub w a b (are_words s r (cc)))
binary_sound sub (Word w a) (Unknown t) s r e = binary_width-ok sub w s.width
binary_sound sub (Word w a) (Memory v head) s r e = binary_width-ok sub w s.width
binary_sound sub (Unknown t) y s r e = binary_width-ok sub (size t) (size_ok t s)
binary_sound sub (Memory w head) y s r e = binary_width-ok sub w s

pub binary-type : (sub : ℕ) (x y : Value) → type_of (Values.binary sub x y) ≡ Values.binary_type sub (type_of x)
binary-type sub (Word w a) (Word v b) = computed_type (Subs.binary_width sub w) (Subs.binary sub w a b)
binary-type sub (Word w a) (Unknown t) = refl
binary-type sub (Word w a) (Memory v head) = refl
binary-type sub (Unknown t) y = refl
binary-type sub (Memory w head) y = refl

-- ------------------------------------------------------------------------------------------------
-- Ops 6, 7 and 11: unary, cast, extract

pub unary_sound : (sub : ℕ) (x : Value) → Sound x → Sound (Values.unary sub x)
unary_sound sub (Word w a) s = computed_sound w (Subs.unary sub w a) s.width (unary_fits sub w a)
unary_sound sub (Unknown t) s = size_ok t s
unary_sound sub (Memory w head) s = s

pub unary_type : (sub : ℕ) (x : Value) → type_of (Values.unary sub x) ≡ Imm (size (type_of x))
unary_type sub (Word w a) = computed_type w (Subs.unary sub w a)
unary_type sub (Unknown t) = refl
unary_type sub (Memory w head) = refl

pub cast_sound : (sub p : ℕ) (x : Value) → Sound x → Width p → Subs.CastFits sub (size (type_of x)) p → Sound (Values.cast sub p x)
cast_sound sub p (Word w a) s h f = computed_sound p (Subs.cast sub w p a) h (cast_fits sub w p a s f)
cast_sound sub p (Unknown t) s h f = h
cast_sound sub p (Memory w head) s h f = h

pub cast-type : (sub p : ℕ) (x : Value) → type_of (Values.cast sub p x) ≡ Imm p
cast-type sub p (Word w a) = computed_type p (Subs.cast sub w p a)
cast-type sub p (Unknown t) = refl
cast-type sub p (Memory w head) = refl

pub extract_width : (p q : ℕ) → q ≤ p → p ≤ q + 63 → Width (p - q + 1)
extract_width p q l h = record { least = omega arith; most = omega arith }

pub extract_sound : (p q : ℕ) (x : Value) → q ≤ p → p ≤ q + 63 → Sound (Values.extract p q x)
extract_sound p q (Word w a) l h = record { width = extract_width p q l h; fits = mod_fits (p - q + 1) (a / 2 ^ q) }
extract_sound p q (Unknown t) l h = extract_width p q l h
extract_sound p q (Memory w head) l h = extract_width p q l h

pub extract-type : (p q : ℕ) (x : Value) → type_of (Values.extract p q x) ≡ Imm (p - q + 1)
extract-type p q (Word w a) = refl
extract-type p q (Unknown t) = refl
extract-type p q (Memory w head) = refl

-- ------------------------------------------------------------------------------------------------
-- Ops 12 and 10: concat, ite

pub concat_width : (x y : Value) → Sound x → Sound y → size (type_of x) + size (type_of y) ≤ 64 → Width (size (type_of x) + size (type_of y))
concat_width x y s r h =
    let a = size_ok (type_of x) (type_ok x s) in
    let b = size_ok (type_of y) (type_ok y r) in
    record { least = omega arith; most = h }

pub concat_sound : (x y : Value) → Sound x → Sound y → size (type_of x) + size (type_of y) ≤ 64 → Sound (Values.concat x y)
concat_sound (Word w a) (Word v b) s r h =
    record { width = concat_width (Word w a) (Word v b) s r h; fits = concat_fits w v a b s.fits r.fits }
concat_sound (Word w a) (Unknown u) s r h = concat_width (Word w a) (Unknown u) s r h
concat_sound (Word w a) (Memory v head) s r h = concat_width (Word w a) (Memory v head) s r h
concat_sound (Unknown t) y s r h = concat_width (Unknown t) y s r h
concat_sound (Memory w head) y s r h = concat_width (Memory w head) y s r h

pub concat-type : (x y : Value) → type_of (Values.concat x y) ≡ Values.concat_type (type_of x) (type_of y)
concat-type (Word w a) (Word v b) = refl
concat-type (Word w a) (Unknown u) = refl
concat-type (Word w a) (Memory v head) = refl
concat-type (Unknown t) y = refl
concat-type (Memory w head) y = refl

pub choose_sound : (c x y : Value) → Sound x → Sound y → Sound (Values.choose c x y)
choose_sound (Word w a) x y s r = elim (eqb a 1) as (λ t. Sound (if t then x else y)) [ true ↦ s | false ↦ r ]
choose_sound (Unknown t) x y s r = type_ok x s
choose_sound (Memory w head) x y s r = type_ok x s

pub choose_type : (c x y : Value) → type_of x ≡ type_of y → type_of (Values.choose c x y) ≡ type_of x
choose_type (Word w a) x y e = elim (eqb a 1) as (λ t. type_of (if t then x else y) ≡ type_of x) [ true ↦ refl | false ↦ sym e ]
choose_type (Unknown t) x y e = refl
choose_type (Memory w head) x y e = refl
