-- Where each expression is used once, what holds at the statements' expressions and goes down to operands holds everywhere. Assumes nothing.
use mathlib.Core.Path.{◌≡◌}
use mathlib.Core.List.{List, [], ◌∷◌}
use Prim.Native.Nat.{ℕ, zero, suc, ◌+◌, ◌-◌, ◌≤◌, ◌<◌}
use native.Mathlib.Decide.{dec_lt}
use native.Mathlib.Omega.{arith}
use borrow.Author.Tests.{eqb-true}
use Rattle.base.specs.Refusals.{Accepted, one_more, no_rule, refusal}
use Rattle.base.proofs.RefusalLaws.{accepted_iff, first_holds}
use Rattle.table.specs.Bytes.{header}
use Rattle.table.specs.Records.{RecordsHold}
use Rattle.forest.specs.Forest.{how_often, over, operands_of, expressions_of, uses, use_rule, forest_rules}
use Rattle.forest.specs.Counting.{Stands}
use Rattle.forest.proofs.CountLaws.{how_often-append}
use Rattle.forest.proofs.OperandLaws.{operands_earlier}
use Rattle.forest.proofs.StandsLaws.{stands_below}

-- a list among the first n in which k stands
record Among (f : ℕ → List ℕ) (n k : ℕ) : Type 0 where
  at : ℕ
  inside : at < n
  stands : Stands k (f at)

among : (f : ℕ → List ℕ) (n k : ℕ) → 1 ≤ how_often k (over f n) → Among f n k
unfolding over how_often
among f zero k h = absurd (omega arith)
among f (suc n) k h = go (dec_lt 0 (how_often k (over f n))) (among f n k)
  where
    go : Dec (0 < how_often k (over f n)) → (1 ≤ how_often k (over f n) → Among f n k) → Among f (suc n) k
    go (yes l) on = let a = on (omega arith) in record { at = a.at; inside = omega (arith, a.inside); stands = a.stands }
    go (no l) on =
        let e = how_often-append k (over f n) (f n) in
        record { at = n; inside = omega arith; stands = record { counts = omega arith } }

-- where refusal 8 did not come each expression is used once
pub used_once : (s : List ℕ) → refusal (use_rule s ∷ []) ≡ Accepted → (k : ℕ) → k < (header s).expressions → how_often k (uses s) ≡ 1
unfolding use_rule
used_once s once k l = eqb-true _ 1 (first_holds ((accepted_iff (use_rule s ∷ [])).0 once) k l)

module _ {s : List ℕ} (hold : RecordsHold s) (once : refusal (use_rule s ∷ []) ≡ Accepted) (P : ℕ → Type 0) where
  pub from_roots : ((i j : ℕ) → j < (header s).statements → Stands i (expressions_of s j) → P i)
      → ((i j : ℕ) → j < (header s).expressions → Stands i (operands_of s j) → P j → P i)
      → (i : ℕ) → i < (header s).expressions → P i
  unfolding uses
  from_roots roots down i l = climb ((header s).expressions - i) i (omega arith) l
    where
      go : (i : ℕ) → ((k : ℕ) → i < k → k < (header s).expressions → P k) → i < (header s).expressions
          → Dec (0 < how_often i (over (operands_of s) (header s).expressions)) → P i
      go i on l (yes h) = let a = among (operands_of s) (header s).expressions i (omega arith) in
          down i a.at a.inside a.stands (on a.at (stands_below (operands_earlier hold a.at a.inside) a.stands) a.inside)
      go i on l (no h) =
          let e = how_often-append i (over (operands_of s) (header s).expressions) (over (expressions_of s) (header s).statements) in
          let u = used_once s once i l in
          let a = among (expressions_of s) (header s).statements i (omega arith) in
          roots i a.at a.inside a.stands

      climb : (m i : ℕ) → (header s).expressions ≤ m + i → i < (header s).expressions → P i
      climb zero i h l = absurd (omega arith)
      climb (suc m) i h l = go i (λ k b. climb m k (omega arith)) l (dec_lt 0 _)

-- what refusals 8 to 11 leave
pub each_used : (s : List ℕ) → refusal (forest_rules s) ≡ Accepted → refusal (use_rule s ∷ []) ≡ Accepted
unfolding forest_rules
each_used s e = (accepted_iff (use_rule s ∷ [])).1 (one_more (first_holds ((accepted_iff (forest_rules s)).0 e)) no_rule)
