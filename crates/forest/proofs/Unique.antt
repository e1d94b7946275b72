-- No second answer fits: the contract of each public function leaves one result. Assumes nothing.
use mathlib.Core.Path.{◌≡◌, refl, ap, sym, ◌∙◌}
use mathlib.Core.List.{List, [], ◌∷◌}
use Prim.Native.Nat.{ℕ}
use contract.Lifetimes.{Lfts}
use Rattle.std.specs.Iterator.{YieldsFirst}
use Rattle.std.specs.Prelude.{Option, Some, None}
use Rattle.base.specs.OneAnswer.{OneAnswer, OneOutcome}
use Rattle.base.proofs.BoolLaws.{impossible}
use Rattle.base.proofs.Unique.{is_unique}
use Rattle.forest.specs.declared.operands.Operands.{Operands}
use Rattle.forest.specs.declared.operands.Operands.TheVariants.{Leaf, One, Two, Three}
use Rattle.forest.specs.Counting.{listed}
use Rattle.forest.proofs as forest

-- operands back from their list
unlisted : List ℕ → Operands
unlisted [] = Leaf
unlisted (a ∷ []) = One a
unlisted (a ∷ b ∷ []) = Two a b
unlisted (a ∷ b ∷ c ∷ more) = Three a b c

back : (o : Operands) → unlisted (listed o) ≡ o
unfolding unlisted
back Leaf = refl
back (One a) = refl
back (Two a b) = refl
back (Three a b c) = refl

listed_unique : (l : List ℕ) (x y : Operands) → listed x ≡ l → listed y ≡ l → x ≡ y
listed_unique l x y p q = sym (back x) ∙ ap unlisted (is_unique p q) ∙ back y

pub operands_unique :
    OneAnswer (forest.operands.of_expression.Reads.Post tt)
    × OneAnswer (forest.operands.of_statement.Reads.Post tt)
operands_unique = (λ a x y s t. listed_unique _ x y, λ a x y s t. listed_unique _ x y)

-- the first operand, and those that follow it
first_unique :
    (o : Operands) (x y : Option ℕ) (p q : Operands) → YieldsFirst listed o x p → YieldsFirst listed o y q → (x ≡ y) × (p ≡ q)
first_unique o None None p q h k = (refl, listed_unique [] p q h.1 k.1)
first_unique o None (Some b) p q h k = impossible (cc)
first_unique o (Some a) None p q h k = impossible (cc)
first_unique o (Some a) (Some b) p q h k =
    let same : a ∷ listed p ≡ b ∷ listed q = sym h ∙ k in
    (cc, listed_unique (listed q) p q (cc) refl)

pub next_unique : (lent : Lfts 1) → OneOutcome (forest.operands.OperandsIterator.next.Reads.Post lent) (λ s. s.0.now)
next_unique lent a x y s t p q = first_unique a.0.now x y s.0.now t.0.now p.0 q.0

pub checks_unique : (lent : Lfts 2) →
    OneAnswer (forest.uses.uses_once.Reads.Post lent)
    × OneAnswer (forest.depth.depths_ok.Reads.Post lent)
    × OneAnswer (forest.nesting.nestings_ok.Reads.Post lent)
checks_unique lent = search is_unique
