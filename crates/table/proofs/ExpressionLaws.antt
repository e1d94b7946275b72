-- An expression whose record holds is the one that its op says, over the expressions that its operands name. Assumes nothing.
use mathlib.Core.Path.{◌≡◌, refl, sym, ◌∙◌}
use mathlib.Core.Bool.{true}
use mathlib.Core.List.{List}
use Prim.Native.Nat.{ℕ, ◌+◌, ◌^◌, ◌<◌}
use native.Mathlib.Nat.{lt_trans}
use lib.Dec.{leb}
use lib.ListN.{get_or}
use borrow.Author.Tests.{ltb-true, leb-true}
use Rattle.base.specs.Numbered.{numbered}
use Rattle.base.proofs.BoolLaws.{and_left, and_right}
use Rattle.base.proofs.CourseLaws.{up_to_at}
use Rattle.base.proofs.NumberedLaws.{All, end, ◌then◌, numbered_all}
use Rattle.table.specs.Bytes.{header, expression}
use Rattle.table.specs.Fields as F
use Rattle.table.specs.Fields.{Row, no_row, expression_rows, expression_row, word_value}
use Rattle.table.specs.Records.{field_ok}
use Rattle.table.specs.Decode.{readers, assemble, exprs, expr}
use Rattle.table.specs.Syntax as S
use Rattle.table.specs.Records.{RecordsHold}
use Rattle.table.proofs.View.{View}
use Rattle.table.proofs.View.{v_var, v_word, v_load, v_store, v_binary, v_unary, v_cast, v_let, v_unknown, v_ite, v_extract, v_concat}
use Rattle.table.proofs.FieldLaws.{FieldsHold, fields_hold, no-row}
use Rattle.table.proofs.FieldLaws.{operand_field, variable_field, let_field, least_field, most_field, size_field, width_field, unknown_type-ok}

-- ------------------------------------------------------------------------------------------------
-- The decoded list

-- expression i of any longer list is made of its record and the expressions before it
exprs_at : (s : List ℕ) (n i : ℕ) → i < n → get_or (exprs s n) i S.bad ≡ assemble (expression s i) (λ k. get_or (exprs s i) k S.bad)
unfolding exprs
exprs_at s n i h = up_to_at _ n i S.bad h

pub expr_is : (s : List ℕ) (i : ℕ) → i < (header s).expressions → expr s i ≡ assemble (expression s i) (λ k. get_or (exprs s i) k S.bad)
unfolding expr
expr_is s i h = exprs_at s (header s).expressions i h

-- an expression is the same in the list of those before a later one
earlier : (s : List ℕ) (i : ℕ) → i < (header s).expressions → (k : ℕ) → k < i → get_or (exprs s i) k S.bad ≡ expr s k
earlier s i h k l = exprs_at s i k l ∙ sym (expr_is s k (lt_trans l h))

-- ------------------------------------------------------------------------------------------------
-- By its op

module _ (s : List ℕ) (i : ℕ) (inside : i < (header s).expressions) where
  -- what a row makes of expression i, where it is the row of its op
  ViewedBy : ℕ → Row → Type 0
  ViewedBy k f =
      (expression s i).op ≡ k → FieldsHold s i f (expression s i)
      → View s i (numbered (λ r e. S.bad) readers k (expression s i) (λ k. get_or (exprs s i) k S.bad))

  before : (k : ℕ) → field_ok s i F.operand k ≡ true → k < i
  before = operand_field s i

  same : (k : ℕ) → field_ok s i F.operand k ≡ true → get_or (exprs s i) k S.bad ≡ expr s k
  same k h = earlier s i inside k (before k h)

  rows_viewed : All ViewedBy expression_rows
  unfolding ViewedBy expression_rows readers
  rows_viewed =
      let r = expression s i in
      (λ op f. v_var op (variable_field s i r.a f.a))
      then (λ op f. v_word op (record { width = width_field s i r.p f.p; fits = ltb-true (word_value r) (2 ^ r.p) f.also }))
      then (λ op f. rw (← same r.a f.a, ← same r.b f.b) at
      (v_load op (size_field s i r.p f.p) (before r.a f.a) (before r.b f.b)))
      then (λ op f. rw (← same r.a f.a, ← same r.b f.b, ← same r.c f.c) at
      (v_store op (size_field s i r.p f.p) (before r.a f.a) (before r.b f.b) (before r.c f.c)))
      then (λ op f. rw (← same r.a f.a, ← same r.b f.b) at
      (v_binary op (least_field s i 19 r.sub f.sub) (most_field s i 19 r.sub f.sub) (before r.a f.a) (before r.b f.b)))
      then (λ op f. rw (← same r.a f.a) at
      (v_unary op (least_field s i 2 r.sub f.sub) (most_field s i 2 r.sub f.sub) (before r.a f.a)))
      then (λ op f. rw (← same r.a f.a) at
      (v_cast op (least_field s i 4 r.sub f.sub) (most_field s i 4 r.sub f.sub) (width_field s i r.p f.p) (before r.a f.a)))
      then (λ op f. rw (← same r.b f.b, ← same r.c f.c) at
      (v_let op (let_field s i r.a f.a).0 (let_field s i r.a f.a).1 (before r.b f.b) (before r.c f.c)))
      then (λ op f. v_unknown op (unknown_type-ok r f.also))
      then (λ op f. rw (← same r.a f.a, ← same r.b f.b, ← same r.c f.c) at
      (v_ite op (before r.a f.a) (before r.b f.b) (before r.c f.c)))
      then (λ op f. rw (← same r.a f.a) at
      (v_extract op (leb-true r.q r.p (and_left _ _ f.also)) (leb-true r.p (r.q + 63) (and_right (leb r.q r.p) _ f.also))
      (before r.a f.a)))
      then (λ op f. rw (← same r.a f.a, ← same r.b f.b) at
      (v_concat op (before r.a f.a) (before r.b f.b)))
      then end

  view_at : (k : ℕ) → ViewedBy k (numbered no_row expression_rows k)
  unfolding ViewedBy
  view_at = numbered_all ViewedBy no_row (λ k op f. absurd (no-row s i (expression s i) f)) expression_rows rows_viewed

pub expr_view : {s : List ℕ} → RecordsHold s → (i : ℕ) → i < (header s).expressions → View s i (expr s i)
unfolding expression_row assemble ViewedBy
expr_view {s} h i inside =
    rw (expr_is s i inside) (view_at s i inside (expression s i).op refl (fields_hold s i _ (expression s i) (h.expressions i inside)))
