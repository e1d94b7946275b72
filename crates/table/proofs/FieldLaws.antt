-- What a record that holds says of its fields. Assumes nothing.
use mathlib.Core.Path.{◌≡◌, refl}
use mathlib.Core.Bool.{Bool, true, false, ◌&&◌}
use mathlib.Core.List.{List}
use Prim.Native.Nat.{ℕ, ◌%◌, ◌≤◌, ◌<◌}
use native.Mathlib.Omega.{arith}
use lib.Dec.{leb, ltb, eqb}
use borrow.Author.Tests.{ltb-true, leb-true, eqb-true, eqb-false, ne_eqb}
use Rattle.std.specs.Prelude.{if◌then◌else◌}
use Rattle.base.specs.Choice.{within}
use Rattle.base.proofs.BoolLaws.{not_both, and_left, and_right, or_cases}
use Rattle.word.specs.Words.{Width}
use Rattle.value.specs.declared.ValueType.TheVariants.{Imm, Mem}
use Rattle.value.specs.Values.{TypeOk}
use Rattle.table.specs.declared.Node.{Node}
use Rattle.table.specs.declared.Variable.{Variable}
use Rattle.table.specs.Bytes.{header, variable}
use Rattle.table.specs.Fields as F
use Rattle.table.specs.Fields.{Row, no_row}
use Rattle.table.specs.Records.{field_ok, variable_ok, record_ok}
use Rattle.table.specs.Decode.{unknown_type, declared_type}
use Rattle.table.specs.Asked.{SizeOk}

-- ------------------------------------------------------------------------------------------------
-- The fields of a record

-- each field of a record is what its row says
pub record FieldsHold (s : List ℕ) (n : ℕ) (f : Row) (r : Node) : Type 0 where
  pub sub : field_ok s n f.sub r.sub ≡ true
  pub p : field_ok s n f.p r.p ≡ true
  pub q : field_ok s n f.q r.q ≡ true
  pub a : field_ok s n f.a r.a ≡ true
  pub b : field_ok s n f.b r.b ≡ true
  pub c : field_ok s n f.c r.c ≡ true
  pub also : f.also r ≡ true

pub fields_hold : (s : List ℕ) (n : ℕ) (f : Row) (r : Node) → record_ok s n f r ≡ true → FieldsHold s n f r
unfolding record_ok
fields_hold s n f r h =
    let h₁ = and_right (field_ok s n f.sub r.sub) _ h in
    let h₂ = and_right (field_ok s n f.p r.p) _ h₁ in
    let h₃ = and_right (field_ok s n f.q r.q) _ h₂ in
    let h₄ = and_right (field_ok s n f.a r.a) _ h₃ in
    let h₅ = and_right (field_ok s n f.b r.b) _ h₄ in
    record {
      sub = and_left _ _ h;
      p = and_left _ _ h₁;
      q = and_left _ _ h₂;
      a = and_left _ _ h₃;
      b = and_left _ _ h₄;
      c = and_left _ _ h₅;
      also = and_right (field_ok s n f.c r.c) _ h₅;
    }

-- no record is one of an op that is not listed
pub no-row : (s : List ℕ) (n : ℕ) (r : Node) → FieldsHold s n no_row r → ⊥
no-row s n r h = not_both h.also refl

-- ------------------------------------------------------------------------------------------------
-- What each kind of field holds

pub operand_field : (s : List ℕ) (n x : ℕ) → field_ok s n F.operand x ≡ true → x < n
unfolding field_ok
operand_field s n x = ltb-true x n

pub variable_field : (s : List ℕ) (n x : ℕ) → field_ok s n F.variable x ≡ true → x < (header s).variables
unfolding field_ok
variable_field s n x = ltb-true x (header s).variables

pub let_field : (s : List ℕ) (n x : ℕ) → field_ok s n F.let_variable x ≡ true → (x < (header s).variables) × ((variable s x).role ≡ 1)
unfolding field_ok
let_field s n x h =
    (ltb-true x (header s).variables (and_left _ _ h), eqb-true (variable s x).role 1 (and_right (ltb x (header s).variables) _ h))

pub state_field : (s : List ℕ) (n x : ℕ) → field_ok s n F.state_variable x ≡ true → (x < (header s).variables) × ((variable s x).role ≡ 0)
unfolding field_ok
state_field s n x h =
    (ltb-true x (header s).variables (and_left _ _ h), eqb-true (variable s x).role 0 (and_right (ltb x (header s).variables) _ h))

pub within_is : (least most x : ℕ) → within least most x ≡ true → (least ≤ x) × (x ≤ most)
within_is least most x h = (leb-true least x (and_left _ _ h), leb-true x most (and_right (leb least x) _ h))

pub least_field : (s : List ℕ) (n limit x : ℕ) → field_ok s n (F.up_from1 limit) x ≡ true → 1 ≤ x
unfolding field_ok
least_field s n limit x h = (within_is 1 limit x h).0

pub most_field : (s : List ℕ) (n limit x : ℕ) → field_ok s n (F.up_from1 limit) x ≡ true → x ≤ limit
unfolding field_ok
most_field s n limit x h = (within_is 1 limit x h).1

pub size_field : (s : List ℕ) (n x : ℕ) → field_ok s n F.size x ≡ true → SizeOk x
unfolding field_ok
size_field s n x h =
    let w = within_is 8 64 x (and_right (eqb (x % 8) 0) _ h) in
    record { multiple = eqb-true (x % 8) 0 (and_left _ _ h); least = w.0; most = w.1 }

pub width_within : (x : ℕ) → within 1 64 x ≡ true → Width x
width_within x h = let w = within_is 1 64 x h in record { least = w.0; most = w.1 }

pub width_field : (s : List ℕ) (n x : ℕ) → field_ok s n (F.up_from1 64) x ≡ true → Width x
unfolding field_ok
width_field s n x = width_within x

-- ------------------------------------------------------------------------------------------------
-- Types

pub unknown_type-ok :
    (r : Node) → (if eqb r.q 0 then leb 1 r.p && leb r.p 64 else eqb r.p 8 && leb r.q 64) ≡ true → TypeOk (unknown_type r)
unknown_type-ok r = go (eqb r.q 0) refl
  where
    go :
        (t : Bool) → eqb r.q 0 ≡ t → (if t then leb 1 r.p && leb r.p 64 else eqb r.p 8 && leb r.q 64) ≡ true
        → TypeOk (if t then Imm r.p else Mem r.q)
    go true e h = width_within r.p h
    go false e h =
        let n = eqb-false r.q 0 e in
        record { least = omega arith; most = leb-true r.q 64 (and_right (eqb r.p 8) _ h) }

pub declared_type-ok : (v : Variable) → variable_ok v ≡ true → TypeOk (declared_type v)
unfolding variable_ok
declared_type-ok v h =
    or_cases (eqb v.kind 1 && (within 1 64 v.width && eqb v.addressWidth 0)) _ (and_left _ _ h)
    (λ p. rw (and_left (eqb v.kind 1) _ p) (width_within v.width (and_left _ _ (and_right (eqb v.kind 1) _ p))))
    (λ p.
    let k = eqb-true v.kind 2 (and_left _ _ p) in
    rw (ne_eqb v.kind 1 (omega arith)) (width_within v.addressWidth (and_right (eqb v.width 8) _ (and_right (eqb v.kind 2) _ p))))
