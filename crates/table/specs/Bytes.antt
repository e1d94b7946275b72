-- The table's bytes as numbers and records. Assumes nothing.
use Rattle.std.specs.Prelude.{List, ℕ, zero, suc, ◌+◌, ◌*◌, get_or}
use Rattle.table.specs.declared.Header.{Header}
use Rattle.table.specs.declared.Variable.{Variable}
use Rattle.table.specs.declared.Node.{Node}

-- "Numbers are little-endian": n bytes from a place on
unfoldable pub number : ℕ → List ℕ → ℕ → ℕ
number zero s at = 0
number (suc n) s at = get_or s at 0 + 256 * number n s (at + 1)

-- ------------------------------------------------------------------------------------------------
-- "The header is 32 bytes of counts and offsets": format and A of 2 bytes, then seven numbers of 4

unfoldable pub header : List ℕ → Header
unfolding number
header s =
    record {
      format = number 2 s 0;
      width = number 2 s 2;
      variables = number 4 s 4;
      variablesAt = number 4 s 8;
      expressions = number 4 s 12;
      expressionsAt = number 4 s 16;
      statements = number 4 s 20;
      statementsAt = number 4 s 24;
      total = number 4 s 28;
    }

-- ------------------------------------------------------------------------------------------------
-- "Sections stand in that order without gaps": variables of 8 bytes, expressions and statements of 16

abbrev pub variables_from : ℕ
variables_from = 32

abbrev pub expressions_from : Header → ℕ
expressions_from h = variables_from + 8 * h.variables

abbrev pub statements_from : Header → ℕ
statements_from h = expressions_from h + 16 * h.expressions

abbrev pub end : Header → ℕ
end h = statements_from h + 16 * h.statements

-- A variable's 8 bytes, "Its number is its name."; an expression's or a statement's 16: four of a byte, three of 4, where a statement's
-- sub, p and q are its "three zeros". The records are src/lib.rt's structs.
unfoldable pub variable_at : List ℕ → ℕ → Variable
unfolding number
variable_at s at =
    record {
      kind = get_or s at 0;
      label = get_or s (at + 1) 0;
      width = get_or s (at + 2) 0;
      addressWidth = get_or s (at + 3) 0;
      role = get_or s (at + 4) 0;
      spare = number 3 s (at + 5);
    }

unfoldable pub node_at : List ℕ → ℕ → Node
unfolding number
node_at s at =
    record {
      op = get_or s at 0;
      sub = get_or s (at + 1) 0;
      p = get_or s (at + 2) 0;
      q = get_or s (at + 3) 0;
      a = number 4 s (at + 4);
      b = number 4 s (at + 8);
      c = number 4 s (at + 12);
    }

unfoldable pub variable : List ℕ → ℕ → Variable
unfolding variable_at
variable s i = variable_at s (variables_from + 8 * i)

unfoldable pub expression : List ℕ → ℕ → Node
unfolding node_at header
expression s i = node_at s (expressions_from (header s) + 16 * i)

unfoldable pub statement : List ℕ → ℕ → Node
unfolding node_at header
statement s i = node_at s (statements_from (header s) + 16 * i)
