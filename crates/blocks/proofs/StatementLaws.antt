-- Rule 7 in parts: a statement's fields by its op. Assumes nothing.
use mathlib.Core.Path.{◌≡◌, refl, ◌∙◌, ap, ap₂}
use mathlib.Core.Bool.{Bool, true, false, ◌&&◌}
use mathlib.Core.List.{List}
use Prim.Native.Nat.{ℕ}
use lib.Dec.{leb, ltb, eqb}
use Rattle.base.specs.declared.codes.Code.TheVariants as Codes
use Rattle.base.specs.Numbered.{numbered}
use Rattle.base.proofs.NumberedLaws.{NoneOf, numbered_other}
use Rattle.table.specs.declared.Node.{Node}
use Rattle.table.specs.Bytes.{header, statement}
use Rattle.table.specs.Fields as F
use Rattle.table.specs.Fields.{no_row, statement_rows, statement_row}
use Rattle.table.specs.Records.{field_ok, record_ok, second_end, block_end, statement_rule}
use Rattle.table.proofs.FieldLaws.{fields_hold, no-row}

-- ------------------------------------------------------------------------------------------------
-- The fields, by op

and_true : (t : Bool) → (t && true) ≡ t
and_true true = refl
and_true false = refl

-- the three fields that no statement names, and the others
abbrev pub fields : Node → Bool → Bool
fields r named = eqb r.sub 0 && (eqb r.p 0 && (eqb r.q 0 && named))

module _ (s : List ℕ) (n : ℕ) (r : Node) where
  -- what the row under a number says
  pub row_holds : ℕ → Bool
  row_holds k = record_ok s n (numbered no_row statement_rows k) r

  pub row_is : record_ok s n (statement_row r) r ≡ row_holds r.op
  unfolding row_holds statement_row
  row_is = refl

  pub move_row : row_holds 1 ≡ fields r (field_ok s n F.state_variable r.a && (ltb r.b n && eqb r.c 0))
  unfolding row_holds record_ok statement_rows
  move_row = ap (λ (t : Bool). fields r (field_ok s n F.state_variable r.a && (ltb r.b n && t))) (and_true (eqb r.c 0))

  pub jmp_row : row_holds 2 ≡ fields r (ltb r.a n && (eqb r.b 0 && eqb r.c 0))
  unfolding row_holds record_ok statement_rows
  jmp_row = ap (λ (t : Bool). fields r (ltb r.a n && (eqb r.b 0 && t))) (and_true (eqb r.c 0))

  pub cpuexn_row : row_holds 3 ≡ fields r (eqb r.b 0 && eqb r.c 0)
  unfolding row_holds record_ok statement_rows
  cpuexn_row = ap (λ (t : Bool). fields r (eqb r.b 0 && t)) (and_true (eqb r.c 0))

  pub special_row : row_holds 4 ≡ fields r (eqb r.b 0 && eqb r.c 0)
  unfolding row_holds record_ok statement_rows
  special_row = ap (λ (t : Bool). fields r (eqb r.b 0 && t)) (and_true (eqb r.c 0))

  pub while_row : row_holds 5 ≡ fields r (ltb r.a n && (eqb r.c 0 && leb 1 r.b))
  unfolding row_holds record_ok statement_rows
  while_row = refl

  pub if_row : row_holds 6 ≡ fields r (ltb r.a n && leb 1 r.b)
  unfolding row_holds record_ok statement_rows
  if_row = refl

  -- no other op has a row
  pub other_row : NoneOf (Unit {0}) statement_rows r.op → row_holds r.op ≡ false
  unfolding row_holds
  other_row none =
      ap (λ (f : F.Row). record_ok s n f r) (numbered_other (Unit {0}) no_row statement_rows r.op none)
      ∙ go (record_ok s n no_row r) refl
    where
      go : (t : Bool) → record_ok s n no_row r ≡ t → t ≡ false
      go true e = absurd (no-row s n r (fields_hold s n no_row r e))
      go false e = refl

-- ------------------------------------------------------------------------------------------------
-- The rule

module _ (s : List ℕ) where
  pub rule_code : (statement_rule s).code ≡ Codes.Statement
  unfolding statement_rule
  rule_code = refl

  pub rule_places : (statement_rule s).places ≡ (header s).statements
  unfolding statement_rule
  rule_places = refl

  -- by what its parts compute
  pub rule_by_parts :
      (i : ℕ) {n end around : ℕ} {r : Node} {fields : Bool} → n ≡ (header s).expressions → r ≡ statement s i
      → fields ≡ record_ok s n (statement_row r) r → end ≡ second_end s i → around ≡ block_end s i
      → (fields && leb end around) ≡ (statement_rule s).holds i
  unfolding statement_rule
  rule_by_parts i same is f e a =
      ap₂ ◌&&◌ (f ∙ ap₂ (λ (n : ℕ) (r : Node). record_ok s n (statement_row r) r) same is) (ap₂ leb e a)
