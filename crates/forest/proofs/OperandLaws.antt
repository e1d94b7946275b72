-- Operands name earlier expressions, where the records hold. Assumes nothing.
use mathlib.Core.Path.{◌≡◌, ap, subst, sym, ◌∙◌}
use mathlib.Core.Bool.{true}
use mathlib.Core.List.{List, ◌∷◌}
use Prim.Native.Nat.{ℕ, ◌≤◌, ◌<◌}
use native.Mathlib.Nat.{lt_of_lt_of_le}
use native.Mathlib.Omega.{arith}
use Rattle.base.specs.Numbered.{numbered}
use Rattle.base.proofs.BoolLaws.{and_left}
use Rattle.base.proofs.NumberedLaws.{All, end, ◌then◌, numbered_all}
use Rattle.table.specs.declared.Header.{Header}
use Rattle.table.specs.declared.Node.{Node}
use Rattle.table.specs.Bytes.{header, expression, statement}
use Rattle.table.specs.Fields as F
use Rattle.table.specs.Fields.{Row, no_row, operands, expression_rows, statement_rows, expression_row, statement_row}
use Rattle.table.specs.Records.{field_ok, record_ok, Framed, RecordsHold}
use Rattle.table.proofs.FieldLaws.{FieldsHold, fields_hold, operand_field}
use Rattle.forest.specs.declared.operands.Operands.{Operands}
use Rattle.forest.specs.Forest.{operands_of, expressions_of}
use Rattle.forest.specs.Counting.{listed, AllBelow, none, ◌and◌}

pub widened : {n m : ℕ} {ks : List ℕ} → AllBelow n ks → n ≤ m → AllBelow m ks
widened none le = none
widened (l and ls) le = lt_of_lt_of_le l le and widened ls le

-- the operands of the case that a match found
pub below_case : {n : ℕ} {o p : Operands} → o ≡ p → AllBelow n (listed o) → AllBelow n (listed p)
below_case {n} e = subst (λ (o : Operands). AllBelow n (listed o)) e

pub first_below : {n k : ℕ} {ks : List ℕ} → AllBelow n (k ∷ ks) → k < n
first_below (l and ls) = l

pub rest_below : {n k : ℕ} {ks : List ℕ} → AllBelow n (k ∷ ks) → AllBelow n ks
rest_below (l and ls) = ls

module _ (s : List ℕ) (n : ℕ) (r : Node) where
  -- what a row calls operands is below n, where the fields are as it says
  NamesBelow : ℕ → Row → Type 0
  NamesBelow k f = FieldsHold s n f r → AllBelow n (operands f r)

  a_below : field_ok s n F.operand r.a ≡ true → r.a < n
  a_below = operand_field s n r.a

  b_below : field_ok s n F.operand r.b ≡ true → r.b < n
  b_below = operand_field s n r.b

  c_below : field_ok s n F.operand r.c ≡ true → r.c < n
  c_below = operand_field s n r.c

  expressions_name : All NamesBelow expression_rows
  unfolding NamesBelow expression_rows operands
  expressions_name =
      (λ f. none)
      then (λ f. none)
      then (λ f. a_below f.a and b_below f.b and none)
      then (λ f. a_below f.a and b_below f.b and c_below f.c and none)
      then (λ f. a_below f.a and b_below f.b and none)
      then (λ f. a_below f.a and none)
      then (λ f. a_below f.a and none)
      then (λ f. b_below f.b and c_below f.c and none)
      then (λ f. none)
      then (λ f. a_below f.a and b_below f.b and c_below f.c and none)
      then (λ f. a_below f.a and none)
      then (λ f. a_below f.a and b_below f.b and none)
      then end

  statements_name : All NamesBelow statement_rows
  unfolding NamesBelow statement_rows operands
  statements_name =
      (λ f. b_below f.b and none)
      then (λ f. a_below f.a and none)
      then (λ f. none)
      then (λ f. none)
      then (λ f. a_below f.a and none)
      then (λ f. a_below f.a and none)
      then end

  names_below : (rows : List (ℕ × Row)) → All NamesBelow rows → (k : ℕ) → NamesBelow k (numbered no_row rows k)
  unfolding NamesBelow operands
  names_below rows = numbered_all NamesBelow no_row (λ k f. none) rows

pub operands_earlier : {s : List ℕ} → RecordsHold s → (i : ℕ) → i < (header s).expressions → AllBelow i (operands_of s i)
unfolding operands_of expression_row NamesBelow
operands_earlier {s} h i inside =
    let r = expression s i in
    names_below s i r expression_rows (expressions_name s i r) r.op (fields_hold s i _ r (h.expressions i inside))

pub expressions_inside :
    {s : List ℕ} → RecordsHold s → (i : ℕ) → i < (header s).statements → AllBelow (header s).expressions (expressions_of s i)
unfolding expressions_of statement_row NamesBelow
expressions_inside {s} h i inside =
    let r = statement s i in
    let n = (header s).expressions in
    names_below s n r statement_rows (statements_name s n r) r.op
    (fields_hold s n _ r (and_left (record_ok s n (statement_row r) r) _ (h.statements i inside)))

-- ------------------------------------------------------------------------------------------------
-- In a table whose frame holds

pub operands_named :
    (s : List ℕ) (i : ℕ) {ks : List ℕ} {r : Node} → ks ≡ operands (expression_row r) r → r ≡ expression s i → ks ≡ operands_of s i
unfolding operands_of
operands_named s i p q = p ∙ ap (λ (r : Node). operands (expression_row r) r) q

pub expressions_named :
    (s : List ℕ) (i : ℕ) {ks : List ℕ} {r : Node} → ks ≡ operands (statement_row r) r → r ≡ statement s i → ks ≡ expressions_of s i
unfolding expressions_of
expressions_named s i p q = p ∙ ap (λ (r : Node). operands (statement_row r) r) q

module _ {s : List ℕ} {h : Header} (framed : Framed s h) (hold : RecordsHold s) (i : ℕ) where
  pub earlier : i < h.expressions → AllBelow i (operands_of s i)
  earlier l = operands_earlier hold i (subst (λ (h : Header). i < h.expressions) framed.is l)

  -- what a record names is below any n that is not less than the number of expressions
  pub operands_below : {n : ℕ} {ks : List ℕ} → ks ≡ operands_of s i → h.expressions ≤ n → i < h.expressions → AllBelow n ks
  operands_below {n} is m l = subst (AllBelow n) (sym is) (widened (earlier l) (omega arith))

  pub expressions_below : {n : ℕ} {ks : List ℕ} → ks ≡ expressions_of s i → h.expressions ≤ n → i < h.statements → AllBelow n ks
  expressions_below {n} is m l =
      subst (AllBelow n) (sym is)
      (widened (expressions_inside hold i (subst (λ (h : Header). i < h.statements) framed.is l))
      (subst (λ (h : Header). h.expressions ≤ n) framed.is m))
