-- What a record names, where the records hold. Assumes nothing.
use mathlib.Core.Path.{◌≡◌, subst}
use mathlib.Core.List.{List}
use Prim.Native.Nat.{ℕ, ◌<◌}
use Rattle.base.specs.Numbered.{numbered}
use Rattle.base.proofs.BoolLaws.{and_left}
use Rattle.table.specs.declared.Node.{Node}
use Rattle.table.specs.Bytes.{header, expression, statement}
use Rattle.table.specs.Fields.{no_row, expression_rows, statement_rows, expression_row, statement_row}
use Rattle.table.specs.Records.{RecordsHold, record_ok}
use Rattle.table.proofs.FieldLaws.{FieldsHold, fields_hold, operand_field, state_field}

module _ {s : List ℕ} (hold : RecordsHold s) (i : ℕ) where
  -- the fields of an expression whose op is k are as the row under k says
  pub fields : i < (header s).expressions → (k : ℕ) → (expression s i).op ≡ k → FieldsHold s i (numbered no_row expression_rows k) (expression s i)
  unfolding expression_row
  fields inside k op =
      subst (λ (k : ℕ). FieldsHold s i (numbered no_row expression_rows k) (expression s i)) op
      (fields_hold s i _ (expression s i) (hold.expressions i inside))

  statement_fields : i < (header s).statements → (k : ℕ) → (statement s i).op ≡ k
      → FieldsHold s (header s).expressions (numbered no_row statement_rows k) (statement s i)
  unfolding statement_row
  statement_fields inside k op =
      let r = statement s i in
      let n = (header s).expressions in
      subst (λ (k : ℕ). FieldsHold s n (numbered no_row statement_rows k) r) op
      (fields_hold s n _ r (and_left (record_ok s n (statement_row r) r) _ (hold.statements i inside)))

-- ------------------------------------------------------------------------------------------------
-- What a statement's record names

module _ {s : List ℕ} {i : ℕ} {r : Node} (hold : RecordsHold s) (inside : i < (header s).statements) (is : r ≡ statement s i) where
  fields_of : (k : ℕ) → r.op ≡ k → FieldsHold s (header s).expressions (numbered no_row statement_rows k) r
  fields_of = rw is (statement_fields hold i inside)

  -- what is moved goes to a variable, and is an expression
  pub move_variable : r.op ≡ 1 → r.a < (header s).variables
  unfolding statement_rows
  move_variable op = (state_field s _ _ (fields_of 1 op).a).0

  pub move_expression : r.op ≡ 1 → r.b < (header s).expressions
  unfolding statement_rows
  move_expression op = operand_field s _ _ (fields_of 1 op).b

  pub jump_expression : r.op ≡ 2 → r.a < (header s).expressions
  unfolding statement_rows
  jump_expression op = operand_field s _ _ (fields_of 2 op).a

  pub loop_expression : r.op ≡ 5 → r.a < (header s).expressions
  unfolding statement_rows
  loop_expression op = operand_field s _ _ (fields_of 5 op).a

  pub branch_expression : r.op ≡ 6 → r.a < (header s).expressions
  unfolding statement_rows
  branch_expression op = operand_field s _ _ (fields_of 6 op).a
