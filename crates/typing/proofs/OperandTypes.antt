-- The type of an expression is what its op makes of the types of the expressions that its record names. Assumes nothing.
use Rattle.std.specs.Prelude.{Option, Some, None}
use mathlib.Core.Path.{◌≡◌, refl, ap, sym, ◌∙◌}
use mathlib.Core.Bool.{true, false≢true}
use mathlib.Core.List.{List, [], ◌∷◌}
use Prim.Native.Nat.{ℕ, ◌<◌}
use Rattle.value.specs.declared.ValueType.{ValueType}
use Rattle.table.specs.Bytes.{header, expression}
use Rattle.table.specs.Records.{RecordsHold}
use Rattle.table.specs.Decode.{context}
use Rattle.forest.specs.Forest.{operands_of}
use Rattle.forest.specs.Counting.{Stands}
use Rattle.forest.proofs.StandsLaws.{stands_nowhere, in_one, in_two, in_three}
use Rattle.typing.specs.Infer.{has_type}
use Rattle.judging.specs.Judging.{by}
use Rattle.typing.proofs.JudgedTypes.{type_made, type_at, types}
use Rattle.typing.proofs.StrictLaws.{one_none, two_first, two_second, three_first, three_second, three_third}

-- ------------------------------------------------------------------------------------------------
-- An expression that has a type has operands that have one

module _ (s : List ℕ) (i : ℕ) where
  abbrev Needed : List ℕ → ℕ → Type 0
  Needed ks k = type_at s k ≡ None → by (type_made (context s)) (type_at s) (expression s i) ks ≡ None

  untyped_by : (ks : List ℕ) {k : ℕ} → Stands k ks → Needed ks k
  untyped_by [] h = stands_nowhere h
  untyped_by (a ∷ []) h = in_one (Needed (a ∷ [])) h (λ e. rw e (one_none _))
  untyped_by (a ∷ b ∷ []) h = in_two (Needed (a ∷ b ∷ [])) h (λ e. rw e (two_first _ _ _)) (λ e. rw e (two_second _ _ _))
  untyped_by (a ∷ b ∷ c ∷ []) h =
      in_three (Needed (a ∷ b ∷ c ∷ [])) h (λ e. rw e (three_first _ _ _)) (λ e. rw e (three_second _ _ _)) (λ e. rw e (three_third _ _ _))
  untyped_by (a ∷ b ∷ c ∷ d ∷ ks) h = λ e. refl

pub typed_operand : {s : List ℕ} → RecordsHold s → (i k : ℕ) → i < (header s).expressions → Stands k (operands_of s i)
    → has_type (type_at s i) ≡ true → has_type (type_at s k) ≡ true
unfolding has_type
typed_operand {s} hold i k inside stands h = go (type_at s k) refl
  where
    go : (o : Option ValueType) → type_at s k ≡ o → has_type o ≡ true
    go (Some t) e = refl
    go None e =
        let none : type_at s i ≡ None = (types s).each hold i inside ∙ untyped_by s i (operands_of s i) stands e in
        absurd (false≢true (sym (ap has_type none) ∙ h))
