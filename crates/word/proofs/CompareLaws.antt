-- Signed readings are in order as the words raised by 2 ^ (w - 1) are. Assumes nothing.
use Rattle.std.proofs.Common.{◌≡◌, ℕ, suc, ◌+◌, ◌-◌, ◌%◌, ◌^◌, ◌<◌, ◌≤◌, Bool, not, ltb, leb, ℤ, pos, negsuc, sym, refl, ap, ◌∙◌, ap₂, mod-eq_of_lt, arith, le-leb, int_lt, int_le, if◌then◌else◌}
use Rattle.std.proofs.Math.Nat.{add-mod_right}
use Rattle.std.proofs.lemmas.Bool.{lt-leb}
use Rattle.word.specs.Words as Words
use Rattle.word.specs.Words.{AreWords, Gives, bit, signed, negative}
use Rattle.word.proofs.FitLaws.{gives_too}
use Rattle.word.proofs.TestLaws.{leb_same, ltb_is_not_leb}
use Rattle.word.proofs.WidthLaws.{halves}
use Rattle.word.proofs.SignedLaws.{Reading, plain, below, reading}

module _ (w : ℕ) (width : 1 ≤ w) where
  abbrev pub raised : ℕ → ℕ
  raised a = Words.plus w a (2 ^ (w - 1))

  raised_is : {a : ℕ} {z : ℤ} {t : Bool} → Reading w a z t → a < 2 ^ w → raised a ≡ (if t then a - 2 ^ (w - 1) else a + 2 ^ (w - 1))
  raised_is {a} (plain h) l = let b : a + 2 ^ (w - 1) < 2 ^ w = omega (arith, halves w width) in mod-eq_of_lt b
  raised_is {a} (below h) l =
      let e : a + 2 ^ (w - 1) ≡ a - 2 ^ (w - 1) + 2 ^ w = omega (arith, halves w width) in
      let b : a - 2 ^ (w - 1) < 2 ^ w = omega arith in
      ap (λ (n : ℕ). n % 2 ^ w) e ∙ add-mod_right (a - 2 ^ (w - 1)) (2 ^ w) ∙ mod-eq_of_lt b

  -- the four cases of two signs
  order : {a b : ℕ} {z y : ℤ} {t u : Bool} → Reading w a z t → Reading w b y u → a < 2 ^ w → b < 2 ^ w
      → int_le z y ≡ leb (if t then a - 2 ^ (w - 1) else a + 2 ^ (w - 1)) (if u then b - 2 ^ (w - 1) else b + 2 ^ (w - 1))
  order {a} {b} (plain h) (plain k) l m = leb_same a b (a + 2 ^ (w - 1)) (b + 2 ^ (w - 1)) (omega arith)
  order {a} {b} (plain h) (below k) l m = sym (lt-leb (a + 2 ^ (w - 1)) (b - 2 ^ (w - 1)) (omega (arith, halves w width)))
  order {a} {b} (below h) (plain k) l m = sym (le-leb (a - 2 ^ (w - 1)) (b + 2 ^ (w - 1)) (omega (arith, halves w width)))
  order {a} {b} (below h) (below k) l m = leb_same (2 ^ w - suc b) (2 ^ w - suc a) (a - 2 ^ (w - 1)) (b - 2 ^ (w - 1)) (omega arith)

  pub le_raised : (a b : ℕ) → a < 2 ^ w → b < 2 ^ w → int_le (signed w a) (signed w b) ≡ leb (raised a) (raised b)
  le_raised a b l m =
      let r = reading w a (negative w a) refl l in
      let s = reading w b (negative w b) refl m in
      order r s l m ∙ sym (ap₂ leb (raised_is r l) (raised_is s m))

  pub lt_raised : (a b : ℕ) → a < 2 ^ w → b < 2 ^ w → int_lt (signed w a) (signed w b) ≡ ltb (raised a) (raised b)
  lt_raised a b l m = turned (signed w a) (signed w b) ∙ ap not (le_raised b a m l) ∙ sym (ltb_is_not_leb (raised a) (raised b))
    where
      turned : (z y : ℤ) → int_lt z y ≡ not (int_le y z)
      turned (pos a) (pos b) = ltb_is_not_leb a b
      turned (pos a) (negsuc b) = refl
      turned (negsuc a) (pos b) = refl
      turned (negsuc a) (negsuc b) = ltb_is_not_leb b a

-- ------------------------------------------------------------------------------------------------
-- What the functions promise: x and y are the words raised

pub slt_gives : (w a b x y r : ℕ) → AreWords w a b → x ≡ Words.plus w a (2 ^ (w - 1)) → y ≡ Words.plus w b (2 ^ (w - 1))
    → Gives 1 (Words.lt x y) r → Gives 1 (Words.slt w a b) r
slt_gives w a b x y r h e f g = gives_too g (ap bit (ap₂ ltb e f ∙ sym (lt_raised w h.width.least a b h.left h.right)))

pub sle_gives : (w a b x y r : ℕ) → AreWords w a b → x ≡ Words.plus w a (2 ^ (w - 1)) → y ≡ Words.plus w b (2 ^ (w - 1))
    → Gives 1 (Words.le x y) r → Gives 1 (Words.sle w a b) r
sle_gives w a b x y r h e f g = gives_too g (ap bit (ap₂ leb e f ∙ sym (le_raised w h.width.least a b h.left h.right)))
