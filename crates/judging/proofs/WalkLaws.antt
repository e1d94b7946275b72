-- A walk from an expression down through its operands, whatever it looks for: what its record and its operands keep to, and that what it makes of
-- the operands' results is the expression's. Assumes nothing.
use mathlib.Core.Path.{◌≡◌, ap, ap₂, subst, sym, ◌∙◌}
use mathlib.Core.List.{List, [], ◌∷◌}
use Prim.Native.Nat.{ℕ, ◌+◌, ◌≤◌, ◌<◌}
use lib.Dec.{leb}
use borrow.Author.Tests.{leb-true}
use Rattle.base.specs.Numbered.{numbered}
use Rattle.base.proofs.BoolLaws.{and_left, and_right}
use Rattle.table.specs.declared.Node.{Node}
use Rattle.table.specs.declared.Header.{Header}
use Rattle.table.specs.declared.read.Frame.{Frame}
use Rattle.table.specs.Bytes.{header, expression}
use Rattle.table.specs.Fields.{no_row, operands, expression_rows, expression_row}
use Rattle.table.specs.Records.{RecordsHold}
use Rattle.table.proofs.FieldLaws.{FieldsHold, variable_field, let_field}
use Rattle.forest.specs.declared.operands.Operands.{Operands}
use Rattle.forest.specs.declared.operands.Operands.TheVariants.{Leaf, One, Two, Three}
use Rattle.forest.specs.Forest.{operands_of}
use Rattle.forest.specs.Counting.{listed, AllBelow, ◌and◌}
use Rattle.forest.proofs.OperandLaws.{operands_named, operands_earlier}
use Rattle.judging.specs.Judging.{Made, by, Course}
use Rattle.judging.proofs.NamedLaws.{fields}

-- a number below a header's count is below that of the table
pub below_header : (f : Frame) {i : ℕ} → i < f.header.expressions → i < (header f.bytes.now).expressions
below_header f {i} = subst (λ (h : Header). i < h.expressions) f.framed.is

module _ {s : List ℕ} {i : ℕ} {r : Node} (holds : RecordsHold s) (within : i < (header s).expressions) (is : r ≡ expression s i) where
  -- ----------------------------------------------------------------------------------------------
  -- What its record names

  row_fields : (k : ℕ) → r.op ≡ k → FieldsHold s i (numbered no_row expression_rows k) r
  row_fields = rw is (fields holds i within)

  pub leaf_variable : r.op ≡ 1 → r.a < (header s).variables
  unfolding expression_rows
  leaf_variable op = variable_field s i _ (row_fields 1 op).a

  pub let_variable : r.op ≡ 8 → r.a < (header s).variables
  unfolding expression_rows
  let_variable op = (let_field s i _ (row_fields 8 op).a).0

  pub bits_down : r.op ≡ 11 → r.q ≤ r.p
  unfolding expression_rows
  bits_down op = leb-true _ _ (and_left _ _ (row_fields 11 op).also)

  pub bits_few : r.op ≡ 11 → r.p ≤ r.q + 63
  unfolding expression_rows
  bits_few op = leb-true r.p (r.q + 63) (and_right (leb r.q r.p) _ (row_fields 11 op).also)

  module _ {o : Operands} (names : listed o ≡ operands (expression_row r) r) where
    named : {p : Operands} → o ≡ p → listed p ≡ operands_of s i
    named e = sym (ap listed e) ∙ operands_named s i names is

    -- --------------------------------------------------------------------------------------------
    -- Its operands' numbers are lower

    lower : {p : Operands} → o ≡ p → AllBelow i (listed p)
    lower e = subst (AllBelow i) (sym (named e)) (operands_earlier holds i within)

    pub one_lower : {a : ℕ} → o ≡ One a → a < i
    one_lower {a} e = go (lower e)
      where
        go : AllBelow i (a ∷ []) → a < i
        go (l and ls) = l

    pub two_lower : {a b : ℕ} → o ≡ Two a b → (a < i) × (b < i)
    two_lower {a} {b} e = go (lower e)
      where
        go : AllBelow i (a ∷ b ∷ []) → (a < i) × (b < i)
        go (l and k and ls) = (l, k)

    pub three_lower : {a b c : ℕ} → o ≡ Three a b c → (a < i) × ((b < i) × (c < i))
    three_lower {a} {b} {c} e = go (lower e)
      where
        go : AllBelow i (a ∷ b ∷ c ∷ []) → (a < i) × ((b < i) × (c < i))
        go (l and k and j and ls) = (l, (k, j))

    -- --------------------------------------------------------------------------------------------
    -- What it finds

    module _ {X : Type 0} {make : Made X} {at : ℕ → X} (course : Course s make at) where
      found : {p : Operands} → o ≡ p → by make at r (listed p) ≡ at i
      found e = ap₂ (by make at) is (named e) ∙ sym (course.each holds i within)

      pub leaf_found : o ≡ Leaf → make.leaf r ≡ at i
      leaf_found e = found e

      pub one_found : {a : ℕ} {x : X} → o ≡ One a → x ≡ at a → make.one r x ≡ at i
      one_found e p = ap (make.one r) p ∙ found e

      pub two_found : {a b : ℕ} {x y : X} → o ≡ Two a b → x ≡ at a → y ≡ at b → make.two r x y ≡ at i
      two_found e p q = ap₂ (make.two r) p q ∙ found e

      pub three_found : {a b c : ℕ} {x y z : X} → o ≡ Three a b c → x ≡ at a → y ≡ at b → z ≡ at c → make.three r x y z ≡ at i
      three_found {a} {b} {c} {x} {y} {z} e p q o = ap₂ (λ x y. make.three r x y z) p q ∙ ap (make.three r (at a) (at b)) o ∙ found e
