-- What a call of the run leaves, by whether there is room for its five numbers. Assumes nothing.
use mathlib.Core.Path.{◌≡◌, refl, sym, ap, ◌∙◌}
use mathlib.Core.Bool.{Bool}
use mathlib.Core.List.{List, [], ◌∷◌}
use Prim.Native.Nat.{ℕ}
use native.Mathlib.Omega.{arith}
use lib.ListN.{length, set}
use borrow.Author.Tests.{eq-eqb, ne_eqb}
use Rattle.std.specs.Prelude.{if◌then◌else◌}
use Rattle.running.specs.declared.Ending.{Ending}
use Rattle.running.specs.Start.{Start}
use Rattle.starts.specs.Lent.{lent}
use Rattle.running.specs.Result.{code_of, place_of, result}
use Rattle.runner.specs.declared.Outcome.{Outcome}
use Rattle.runner.specs.Given.{Gives}
use Rattle.bil.specs.RunCall.{Left, left, numbers, call}

-- five numbers stored one after the other
abbrev stored : List ℕ → ℕ → ℕ → ℕ → ℕ → ℕ → List ℕ
stored o a b c d e = set (set (set (set (set o 0 a) 1 b) 2 c) 3 d) 4 e

five : (o : List ℕ) (a b c d e : ℕ) → length o ≡ 5 → stored o a b c d e ≡ a ∷ b ∷ c ∷ d ∷ e ∷ []
five [] a b c d e h = absurd (omega arith)
five (v ∷ []) a b c d e h = absurd (omega arith)
five (v ∷ w ∷ []) a b c d e h = absurd (omega arith)
five (v ∷ w ∷ x ∷ []) a b c d e h = absurd (omega arith)
five (v ∷ w ∷ x ∷ y ∷ []) a b c d e h = absurd (omega arith)
five (v ∷ w ∷ x ∷ y ∷ z ∷ []) a b c d e h = refl
five (v ∷ w ∷ x ∷ y ∷ z ∷ u ∷ o) a b c d e h = absurd (omega arith)

-- the same numbers and buffers
same : {σ τ m n : List ℕ} {a b c d e f g h i j : ℕ} → σ ≡ τ → m ≡ n → a ≡ f → b ≡ g → c ≡ h → d ≡ i → e ≡ j
    → left 1 σ m (a ∷ b ∷ c ∷ d ∷ e ∷ []) ≡ left 1 τ n (f ∷ g ∷ h ∷ i ∷ j ∷ [])
same p q k l r s t = rw (p, q, k, l, r, s, t)

module _ (s : Start) (o : List ℕ) where
  abbrev by : Bool → Left
  by t = let x = result s in if t then left 1 x.state x.log (numbers x) else left 0 s.state s.log o

  pub call_refuses : (length o ≡ 5 → ⊥) → left 0 s.state s.log o ≡ call s o
  call_refuses h = ap by (sym (ne_eqb _ _ h))

  pub call_runs : {r : Outcome} {σ m : List ℕ} {code place : ℕ} → length o ≡ 5 → Gives (result s) r σ m → code ≡ code_of r.ending
      → place ≡ place_of r.ending → left 1 σ m (stored o code place r.ticks r.count r.next) ≡ call s o
  call_runs {r} {σ} {m} {code} {place} h g c p =
      ap (left 1 σ m) (five o code place r.ticks r.count r.next h)
      ∙ same g.state g.log (c ∙ ap (λ (e : Ending). code_of e) g.ending) (p ∙ ap (λ (e : Ending). place_of e) g.ending) g.ticks
      g.count g.next
      ∙ ap by (sym (eq-eqb _ _ h))

-- the same of what is lent, where out is not five numbers
pub lent_refused : (table state log : List ℕ) (count next budget : ℕ) (o : List ℕ) → (length o ≡ 5 → ⊥)
    → left 0 state log o ≡ call (lent table state log count next budget) o
lent_refused table state log count next budget o h = call_refuses (lent table state log count next budget) o h
