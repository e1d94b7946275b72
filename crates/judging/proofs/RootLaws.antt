-- Where each expression is used once, what a test of statements tells of the expressions that they name, and what goes down to operands, holds of
-- every expression. Assumes nothing.
use Rattle.std.specs.Prelude.{Option, is_some}
use mathlib.Core.Path.{◌≡◌, refl, sym, ◌∙◌}
use mathlib.Core.Bool.{Bool, true}
use mathlib.Core.List.{List, [], ◌∷◌}
use Prim.Native.Nat.{ℕ, ◌<◌}
use Rattle.base.specs.Refusals.{HoldsBelow, Accepted, refusal}
use Rattle.base.proofs.NumberedLaws.{All, end, ◌then◌, numbered_all}
use Rattle.table.specs.Bytes.{header, statement}
use Rattle.table.specs.Fields.{Row, no_row, operands, statement_rows, statement_row}
use Rattle.table.specs.Records.{RecordsHold}
use Rattle.forest.specs.Forest.{operands_of, expressions_of, use_rule}
use Rattle.forest.specs.Counting.{Stands}
use Rattle.forest.proofs.StandsLaws.{stands_nowhere, in_one}
use Rattle.judging.specs.Judging.{Asks}
use Rattle.forest.proofs.UserLaws.{from_roots}

module _ (s : List ℕ) (P : ℕ → Type 0) (rule : ℕ → Bool)
    (moves : (j : ℕ) → (statement s j).op ≡ 1 → rule j ≡ true → P (statement s j).b)
    (jumps : (j : ℕ) → (statement s j).op ≡ 2 → rule j ≡ true → P (statement s j).a)
    (loops : (j : ℕ) → (statement s j).op ≡ 5 → rule j ≡ true → P (statement s j).a)
    (branches : (j : ℕ) → (statement s j).op ≡ 6 → rule j ≡ true → P (statement s j).a) where
  -- a statement of op k that keeps the rule tells of each expression that a record of the op names that it has what is looked for
  Tells : ℕ → ℕ → ℕ → Row → Type 0
  Tells i j k f = (statement s j).op ≡ k → Stands i (operands f (statement s j)) → P i

  rows_tell : (i j : ℕ) → rule j ≡ true → All (Tells i j) statement_rows
  unfolding Tells statement_rows operands
  rows_tell i j p =
      (λ op h. in_one P h (moves j op p))
      then (λ op h. in_one P h (jumps j op p))
      then (λ op h. stands_nowhere h)
      then (λ op h. stands_nowhere h)
      then (λ op h. in_one P h (loops j op p))
      then (λ op h. in_one P h (branches j op p))
      then end

  root_has : (i j : ℕ) → Stands i (expressions_of s j) → rule j ≡ true → P i
  unfolding expressions_of statement_row Tells operands
  root_has i j h p =
      numbered_all (Tells i j) no_row (λ k op n. stands_nowhere n) statement_rows (rows_tell i j p) (statement s j).op refl h

  pub from_statements : RecordsHold s → refusal (use_rule s ∷ []) ≡ Accepted
      → ((j i : ℕ) → j < (header s).expressions → Stands i (operands_of s j) → P j → P i)
      → HoldsBelow rule (header s).statements
      → (i : ℕ) → i < (header s).expressions → P i
  from_statements hold once down all = from_roots hold once P (λ i j l h. root_has i j h (all j l)) (λ i j. down j i)

-- where what may go to a place was found, something is found of every expression
pub found_everywhere : {X : Type 0} {s : List ℕ} {rule : ℕ → Bool} {may_go : X → Option X → Bool} {at : ℕ → Option X} {variable : ℕ → X} {jump guard : X}
    → Asks s rule may_go at variable jump guard
    → ((place : X) (o : Option X) → may_go place o ≡ true → is_some o ≡ true)
    → RecordsHold s
    → refusal (use_rule s ∷ []) ≡ Accepted
    → ((j i : ℕ) → j < (header s).expressions → Stands i (operands_of s j) → is_some (at j) ≡ true → is_some (at i) ≡ true)
    → HoldsBelow rule (header s).statements
    → (i : ℕ) → i < (header s).expressions → is_some (at i) ≡ true
found_everywhere {s = s} {rule = rule} {at = at} asks goes =
    from_statements s (λ k. is_some (at k) ≡ true) rule
    (λ j op p. goes _ _ (sym (asks.moves j op) ∙ p))
    (λ j op p. goes _ _ (sym (asks.jumps j op) ∙ p))
    (λ j op p. goes _ _ (sym (asks.loops j op) ∙ p))
    (λ j op p. goes _ _ (sym (asks.branches j op) ∙ p))
