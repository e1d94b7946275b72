-- What each field of a record holds, by its op: paper 01's two tables of ops, a row each. Assumes nothing.
use Rattle.std.specs.Prelude.{Bool, true, false, ◌&&◌, List, [], ◌∷◌, ◌++◌, ℕ, ◌+◌, ◌*◌, ◌^◌, leb, ltb, eqb}
use Rattle.std.specs.Prelude.{if◌then◌else◌}
use Rattle.base.specs.Numbered.{numbered}
use Rattle.table.specs.declared.Node.{Node}

-- what a field holds
pub data Field : Type 0 where
  unnamed : Field  -- "A field not named is 0"
  number : Field  -- any number, or one that the row's own rule bounds
  up_from1 : ℕ → Field  -- 1 to a limit
  size : Field  -- "the multiples of 8 from 8 to 64"
  order : Field  -- "0 little or 1 big"
  variable : Field  -- the number of a variable
  let_variable : Field  -- of a let variable
  state_variable : Field  -- of a state variable
  operand : Field  -- the number of an expression, of an earlier one in an expression

-- the fields of an op, in their order, and what its row asks beyond them
pub record Row : Type 0 where
  pub sub : Field
  pub p : Field
  pub q : Field
  pub a : Field
  pub b : Field
  pub c : Field
  pub also : Node → Bool

-- ------------------------------------------------------------------------------------------------
-- The rows

abbrev pub nothing : Node → Bool
nothing r = true

abbrev pub row : Field → Field → Field → Field → Field → Field → (Node → Bool) → Row
row sub p q a b c also = record { sub = sub; p = p; q = q; a = a; b = b; c = c; also = also }

-- "value b + 2^32·c"
abbrev pub word_value : Node → ℕ
word_value r = r.b + 2 ^ 32 * r.c

-- a row that no op has
abbrev pub no_row : Row
no_row = row unnamed unnamed unnamed unnamed unnamed unnamed (λ r. false)

unfoldable pub expression_rows : List (ℕ × Row)
expression_rows =
    (1, row unnamed unnamed unnamed variable unnamed unnamed nothing)  -- var
    ∷ (2, row unnamed (up_from1 64) unnamed unnamed number number (λ r. ltb (word_value r) (2 ^ r.p)))  -- word
    ∷ (3, row unnamed size order operand operand unnamed nothing)  -- load
    ∷ (4, row unnamed size order operand operand operand nothing)  -- store
    ∷ (5, row (up_from1 19) unnamed unnamed operand operand unnamed nothing)  -- binary
    ∷ (6, row (up_from1 2) unnamed unnamed operand unnamed unnamed nothing)  -- unary
    ∷ (7, row (up_from1 4) (up_from1 64) unnamed operand unnamed unnamed nothing)  -- cast
    ∷ (8, row unnamed unnamed unnamed let_variable operand operand nothing)  -- let
    ∷ (9, row unnamed number number unnamed unnamed unnamed (λ r. if eqb r.q 0 then leb 1 r.p && leb r.p 64 else eqb r.p 8 && leb r.q 64))  -- unknown
    ∷ (10, row unnamed unnamed unnamed operand operand operand nothing)  -- ite
    ∷ (11, row unnamed number number operand unnamed unnamed (λ r. leb r.q r.p && leb r.p (r.q + 63)))  -- extract
    ∷ (12, row unnamed unnamed unnamed operand operand unnamed nothing)  -- concat
    ∷ []

-- "blocks are never empty": a body has a length of at least 1, an else alone may have none
unfoldable pub statement_rows : List (ℕ × Row)
statement_rows =
    (1, row unnamed unnamed unnamed state_variable operand unnamed nothing)  -- move
    ∷ (2, row unnamed unnamed unnamed operand unnamed unnamed nothing)  -- jmp
    ∷ (3, row unnamed unnamed unnamed number unnamed unnamed nothing)  -- cpuexn
    ∷ (4, row unnamed unnamed unnamed number unnamed unnamed nothing)  -- special
    ∷ (5, row unnamed unnamed unnamed operand number unnamed (λ r. leb 1 r.b))  -- while
    ∷ (6, row unnamed unnamed unnamed operand number number (λ r. leb 1 r.b))  -- if
    ∷ []

-- ------------------------------------------------------------------------------------------------
-- The operands of a record

operand_of : Field → ℕ → List ℕ
operand_of unnamed x = []
operand_of number x = []
operand_of (up_from1 limit) x = []
operand_of size x = []
operand_of order x = []
operand_of variable x = []
operand_of let_variable x = []
operand_of state_variable x = []
operand_of operand x = x ∷ []

-- in field order
unfoldable pub operands : Row → Node → List ℕ
unfolding operand_of
operands f r = operand_of f.a r.a ++ operand_of f.b r.b ++ operand_of f.c r.c

unfoldable pub expression_row : Node → Row
unfolding expression_rows
expression_row r = numbered no_row expression_rows r.op

unfoldable pub statement_row : Node → Row
unfolding statement_rows
statement_row r = numbered no_row statement_rows r.op
