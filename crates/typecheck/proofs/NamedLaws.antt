-- What a record names, where the records hold. Assumes nothing.
use Rattle.std.proofs.Common.{◌≡◌, ap, subst, sym, ◌∙◌, Bool, true, List, ℕ, ◌<◌}
use Rattle.base.specs.Numbered.{numbered}
use Rattle.base.proofs.BoolLaws.{and_left}
use Rattle.table.specs.declared.Header.{Header}
use Rattle.table.specs.declared.Node.{Node}
use Rattle.table.specs.Bytes.{header, statement}
use Rattle.table.specs.Fields.{operand, no_row, statement_rows, statement_row}
use Rattle.table.specs.Records.{Framed, RecordsHold, field_ok, record_ok}
use Rattle.table.proofs.FieldLaws.{FieldsHold, fields_hold, operand_field, state_field}

module _ {s : List ℕ} (hold : RecordsHold s) (i : ℕ) where
  statement_fields : i < (header s).statements → (k : ℕ) → (statement s i).op ≡ k
      → FieldsHold s (header s).expressions (numbered no_row statement_rows k) (statement s i)
  unfolding statement_row
  statement_fields inside k op =
      let r = statement s i in
      let n = (header s).expressions in
      subst (λ (k : ℕ). FieldsHold s n (numbered no_row statement_rows k) r) op
      (fields_hold s n _ r (and_left (record_ok s n (statement_row r) r) _ (hold.statements i inside)))

-- ------------------------------------------------------------------------------------------------
-- What is asked of a number

-- what a walk asks of expression k: the frame, the records, and that there is one
abbrev pub Asked : List ℕ → ℕ → Type 0
Asked s k = Framed s (header s) × (RecordsHold s × (k < (header s).expressions))

pub asked_by_head : {s : List ℕ} {h : Header} {k : ℕ} → Framed s h × (RecordsHold s × (k < h.expressions)) → Asked s k
asked_by_head {s} {k = k} (framed, (hold, inside)) =
    (subst (Framed s) framed.is framed, (hold, subst (λ (h : Header). k < h.expressions) framed.is inside))

pub statement_inside : {s : List ℕ} {h : Header} → Framed s h → (i : ℕ) → i < h.statements → i < (header s).statements
statement_inside framed i inside = rw framed.is at inside

-- ------------------------------------------------------------------------------------------------
-- What a statement's record names

-- the record of statement i was read
pub record StatementRead (s : List ℕ) (h : Header) (i : ℕ) (r : Node) : Type 0 where
  pub asked : Framed s h × (RecordsHold s × (i < h.statements))
  pub is : r ≡ statement s i

module _ {s : List ℕ} {h : Header} {i : ℕ} {r : Node} (m : StatementRead s h i r) where
  row_fields : (k : ℕ) → r.op ≡ k → FieldsHold s (header s).expressions (numbered no_row statement_rows k) r
  row_fields = rw m.is (statement_fields m.asked.1.0 i (statement_inside m.asked.0 i m.asked.1.1))

  asked : {k : ℕ} → k < (header s).expressions → Asked s k
  asked l = (subst (Framed s) m.asked.0.is m.asked.0, (m.asked.1.0, l))

  pub moved_to : r.op ≡ 1 → Framed s h × (r.a < h.variables)
  unfolding statement_rows
  moved_to op = (m.asked.0, rw m.asked.0.is (state_field s _ _ (row_fields 1 op).a).0)

  pub moved : r.op ≡ 1 → Asked s r.b
  unfolding statement_rows
  moved op = asked (operand_field s _ _ (row_fields 1 op).b)

  -- an op whose first field is an expression's number
  pub first_asked : (k : ℕ) → (numbered no_row statement_rows k).a ≡ operand → r.op ≡ k → Asked s r.a
  first_asked k e op = asked (operand_field s _ r.a (subst (λ f. field_ok s (header s).expressions f r.a ≡ true) e (row_fields k op).a))

  -- what a test by op makes of the record is what it makes of the statement
  pub under : (test : List ℕ → ℕ → Node → Bool) (k : ℕ) {x : Bool} → r.op ≡ k → x ≡ test s k r → x ≡ test s (statement s i).op (statement s i)
  under test k op p = p ∙ sym (ap (λ k. test s k r) op) ∙ ap (λ r. test s r.op r) m.is
