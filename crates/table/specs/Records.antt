-- What the header and each record must be: refusals 1 to 7. Assumes nothing.
use Rattle.std.specs.Prelude.{◌≡◌, Bool, true, ◌&&◌, ◌||◌, List, [], ◌∷◌, ℕ, zero, suc, ◌+◌, ◌%◌, ◌≤◌, ◌<◌, leb, ltb, eqb, length}
use Rattle.std.specs.Prelude.{if◌then◌else◌}
use Rattle.base.specs.declared.codes.Code.TheVariants as Codes
use Rattle.base.specs.Choice.{within}
use Rattle.base.specs.Refusals.{Rule, whole}
use Rattle.table.specs.declared.Variable.{Variable}
use Rattle.table.specs.declared.Node.{Node}
use Rattle.table.specs.declared.Header.{Header}
use Rattle.table.specs.Bytes.{header, variables_from, expressions_from, statements_from, end, variable, expression, statement}
use Rattle.table.specs.Fields as F
use Rattle.table.specs.Fields.{Field, Row, expression_row, statement_row}

-- ------------------------------------------------------------------------------------------------
-- The header: 1 to 4

-- "variables V (0 to 256)", "expressions E (0 to 2,048)", "statements S (1 to 1,024)"
abbrev pub most_variables : ℕ
most_variables = 256

abbrev pub most_expressions : ℕ
most_expressions = 2048

abbrev pub most_statements : ℕ
most_statements = 1024

-- 1 "under 32 bytes", 2 "format or A", 3 "a count", 4 "offset or length": "the offsets are 32, 32+8V, 32+8V+16E, and the total is
-- 32+8V+16E+16S, which is also the length lent"
unfoldable pub header_rules : List ℕ → List Rule
header_rules s =
    let h = header s in
    whole Codes.TooShort (leb 32 (length s))
    ∷ whole Codes.Format (eqb h.format 1 && within 1 64 h.width)
    ∷ whole Codes.Count (leb h.variables most_variables && (leb h.expressions most_expressions && within 1 most_statements h.statements))
    ∷ whole Codes.Length
    (eqb h.variablesAt variables_from
    && (eqb h.expressionsAt (expressions_from h)
    && (eqb h.statementsAt (statements_from h) && (eqb h.total (end h) && eqb (length s) (end h)))))
    ∷ []

-- what the parts need of what refusals 1 to 4 leave: a header that is the table's, sections that fill it, and counts within their limits
pub record Framed (s : List ℕ) (h : Header) : Type 0 where
  pub is : h ≡ header s
  pub whole : length s ≡ end h
  pub variables : h.variables ≤ most_variables
  pub expressions : h.expressions ≤ most_expressions
  pub statements : h.statements ≤ most_statements
  pub some : 1 ≤ h.statements

-- ------------------------------------------------------------------------------------------------
-- The records: 5 to 7

-- "kind (1 immediate, 2 memory), label (0 open, 1 sealed), width (1 to 64; for memory 8), address width (0 for an immediate, 1 to 64 for
-- memory), role (0 state, 1 let), three zeros"
unfoldable pub variable_ok : Variable → Bool
variable_ok v =
    ((eqb v.kind 1 && (within 1 64 v.width && eqb v.addressWidth 0))
    || (eqb v.kind 2 && (eqb v.width 8 && within 1 64 v.addressWidth)))
    && (leb v.label 1 && (leb v.role 1 && eqb v.spare 0))

abbrev pub is_let : Variable → Bool
is_let v = eqb v.role 1

-- what a field holds, where only the first n expressions can be named
unfoldable pub field_ok : List ℕ → ℕ → Field → ℕ → Bool
unfolding variable header
field_ok s n F.unnamed x = eqb x 0
field_ok s n F.number x = true
field_ok s n (F.up_from1 limit) x = within 1 limit x
field_ok s n F.size x = eqb (x % 8) 0 && within 8 64 x
field_ok s n F.order x = leb x 1
field_ok s n F.variable x = ltb x (header s).variables
field_ok s n F.let_variable x = ltb x (header s).variables && is_let (variable s x)
field_ok s n F.state_variable x = ltb x (header s).variables && eqb (variable s x).role 0
field_ok s n F.operand x = ltb x n

unfoldable pub record_ok : List ℕ → ℕ → Row → Node → Bool
unfolding field_ok
record_ok s n f r =
    field_ok s n f.sub r.sub
    && (field_ok s n f.p r.p
    && (field_ok s n f.q r.q
    && (field_ok s n f.a r.a && (field_ok s n f.b r.b && (field_ok s n f.c r.c && f.also r)))))

-- "Bodies follow their statement at once, nested ones counted, then before else": where the first and the second body of
-- statement j end; one that a statement doesn't have is empty
unfoldable pub first_end : List ℕ → ℕ → ℕ
unfolding statement
first_end s j = let r = statement s j in suc j + (if eqb r.op 5 || eqb r.op 6 then r.b else 0)

unfoldable pub second_end : List ℕ → ℕ → ℕ
unfolding statement first_end
second_end s j = let r = statement s j in first_end s j + (if eqb r.op 6 then r.c else 0)

-- the ends of the bodies of statements below j that statement i stands in, the innermost first
unfoldable pub ends_around : List ℕ → ℕ → ℕ → List ℕ
unfolding first_end second_end
ends_around s i zero = []
ends_around s i (suc j) =
    let outer = ends_around s i j in
    if ltb i (first_end s j) then first_end s j ∷ outer else (if ltb i (second_end s j) then second_end s j ∷ outer else outer)

-- where the block around statement i ends
unfoldable pub block_end : List ℕ → ℕ → ℕ
unfolding ends_around header
block_end s i = elim (ends_around s i i) [ [] ↦ (header s).statements | e ∷ outer ↦ e ]

unfoldable pub variable_rule : List ℕ → Rule
unfolding variable_ok variable header
variable_rule s = record { code = Codes.Variable; places = (header s).variables; holds = λ i. variable_ok (variable s i) }

-- "Operands are numbers of earlier expressions."
unfoldable pub expression_rule : List ℕ → Rule
unfolding record_ok expression_row expression header
expression_rule s =
    record { code = Codes.Expression; places = (header s).expressions; holds = λ i. record_ok s i (expression_row (expression s i)) (expression s i) }

-- "they end inside the block around them"
unfoldable pub statement_rule : List ℕ → Rule
unfolding record_ok statement_row second_end block_end statement header
statement_rule s =
    record {
      code = Codes.Statement;
      places = (header s).statements;
      holds = λ i.
          record_ok s (header s).expressions (statement_row (statement s i)) (statement s i) && leb (second_end s i) (block_end s i);
    }

unfoldable pub record_rules : List ℕ → List Rule
unfolding variable_rule expression_rule statement_rule
record_rules s = variable_rule s ∷ expression_rule s ∷ statement_rule s ∷ []

-- what refusals 5 to 7 leave
pub record RecordsHold (s : List ℕ) : Type 0 where
  pub variables : (i : ℕ) → i < (header s).variables → variable_ok (variable s i) ≡ true
  pub expressions : (i : ℕ) → i < (header s).expressions → record_ok s i (expression_row (expression s i)) (expression s i) ≡ true
  pub statements :
      (i : ℕ) → i < (header s).statements
      → (record_ok s (header s).expressions (statement_row (statement s i)) (statement s i) && leb (second_end s i) (block_end s i)) ≡ true
