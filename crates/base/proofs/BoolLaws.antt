-- Cases that can't be, and what a test made of tests says of its parts. Assumes nothing.
use mathlib.Core.Path.{◌≡◌, refl, sym, ap, ◌∙◌}
use mathlib.Core.Bool.{Bool, true, false, ◌&&◌, ◌||◌, and-eq-true_iff}
use Prim.Native.Nat.{ℕ}
use native.Mathlib.Omega.{arith}

-- `impossible (cc)` closes a case in which two constructors would be equal
pub impossible {ℓ} : {X : Type ℓ} → ◌≡◌ {A = ℕ} 0 1 → X
impossible e = absurd (omega arith)

pub not_both : {t : Bool} → t ≡ true → t ≡ false → ⊥
not_both p q = impossible (cc)

pub and_left : (a b : Bool) → (a && b) ≡ true → a ≡ true
and_left true b h = refl
and_left false b h = h

pub and_right : (a b : Bool) → (a && b) ≡ true → b ≡ true
and_right true b h = h
and_right false b h = absurd (not_both h refl)

pub and_both : {a b : Bool} → a ≡ true → b ≡ true → (a && b) ≡ true
and_both {a} {b} p q = (and-eq-true_iff a b).1 (p, q)

-- a disjunction that holds, by which of its two holds
pub or_cases {ℓ} : {C : Type ℓ} (a b : Bool) → (a || b) ≡ true → (a ≡ true → C) → (b ≡ true → C) → C
or_cases true b h f g = f refl
or_cases false b h f g = g h

pub or_false_left : (a b : Bool) → (a || b) ≡ false → a ≡ false
or_false_left true b h = h
or_false_left false b h = refl

pub or_false_right : (a b : Bool) → (a || b) ≡ false → b ≡ false
or_false_right true b h = absurd (not_both refl h)
or_false_right false b h = h

-- ------------------------------------------------------------------------------------------------
-- Tests that a function gave, after `if !test { return false; }`

pub passed : {r t : Bool} → r ≡ t → r ≡ true → t ≡ true
passed e n = sym e ∙ n

pub failed : {r t : Bool} → r ≡ t → r ≡ false → t ≡ false
failed e n = sym e ∙ n

-- a first test that fails decides
pub fails_here : {a : Bool} (b : Bool) → a ≡ false → false ≡ (a && b)
fails_here b e = sym (ap (λ (t : Bool). t && b) e)

-- after one that passes the others decide
pub goes_on : {a b x : Bool} → a ≡ true → x ≡ b → x ≡ (a && b)
goes_on {b = b} e d = d ∙ sym (ap (λ (t : Bool). t && b) e)
