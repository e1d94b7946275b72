-- What a table's records say: its variables, expressions and program. Assumes nothing.
use Rattle.std.specs.Prelude.{Bool, List, [], ◌∷◌, ℕ, zero, suc, ◌+◌, ◌-◌, eqb, get_or}
use Rattle.std.specs.Prelude.{if◌then◌else◌}
use Rattle.base.specs.Course.{up_to}
use Rattle.base.specs.Numbered.{numbered}
use Rattle.value.specs.declared.ValueType.{ValueType}
use Rattle.value.specs.declared.ValueType.TheVariants.{Imm, Mem}
use Rattle.table.specs.declared.Variable.{Variable}
use Rattle.table.specs.declared.Node.{Node}
use Rattle.table.specs.Bytes.{header, variable, expression, statement}
use Rattle.table.specs.Fields.{word_value}
use Rattle.table.specs.Syntax as S
use Rattle.table.specs.Syntax.{Expr, Block}

-- ------------------------------------------------------------------------------------------------
-- Variables: their types and labels

pub record Context : Type 0 where
  pub type : ℕ → ValueType
  pub sealed : ℕ → Bool

abbrev pub declared_type : Variable → ValueType
declared_type v = if eqb v.kind 1 then Imm v.width else Mem v.addressWidth

unfoldable pub context : List ℕ → Context
unfolding variable
context s = record { type = λ x. declared_type (variable s x); sealed = λ x. eqb (variable s x).label 1 }

-- ------------------------------------------------------------------------------------------------
-- Expressions: each of its record and the expressions before it

-- "q 0: p 1 to 64; q 1 to 64: p is 8, a memory"
abbrev pub unknown_type : Node → ValueType
unknown_type r = if eqb r.q 0 then Imm r.p else Mem r.q

unfoldable pub readers : List (ℕ × (Node → (ℕ → Expr) → Expr))
readers =
    (1, λ r e. S.var r.a)
    ∷ (2, λ r e. S.word r.p (word_value r))
    ∷ (3, λ r e. S.load r.p (eqb r.q 1) (e r.a) (e r.b))
    ∷ (4, λ r e. S.store r.p (eqb r.q 1) (e r.a) (e r.b) (e r.c))
    ∷ (5, λ r e. S.binary r.sub (e r.a) (e r.b))
    ∷ (6, λ r e. S.unary r.sub (e r.a))
    ∷ (7, λ r e. S.cast r.sub r.p (e r.a))
    ∷ (8, λ r e. S.lets r.a (e r.b) (e r.c))
    ∷ (9, λ r e. S.unknown (unknown_type r))
    ∷ (10, λ r e. S.ite (e r.a) (e r.b) (e r.c))
    ∷ (11, λ r e. S.extract r.p r.q (e r.a))
    ∷ (12, λ r e. S.concat (e r.a) (e r.b))
    ∷ []

-- the expression of a record, its operands by their numbers
unfoldable pub assemble : Node → (ℕ → Expr) → Expr
unfolding readers
assemble r e = numbered (λ r e. S.bad) readers r.op r e

unfoldable pub exprs : List ℕ → ℕ → List Expr
unfolding up_to assemble expression
exprs s = up_to (λ i before. assemble (expression s i) (λ k. get_or before k S.bad))

unfoldable pub expr : List ℕ → ℕ → Expr
unfolding exprs header
expr s i = get_or (exprs s (header s).expressions) i S.bad

-- ------------------------------------------------------------------------------------------------
-- The program: a block by where it starts and how many statements it has, nested ones counted

-- the statement numbered n, with l statements after it in its block; `on m l` is the block of l statements that starts m further on
unfoldable pub starters : List (ℕ × (Node → (ℕ → Expr) → ℕ → ℕ → (ℕ → ℕ → Block) → Block))
starters =
    (1, λ r e n l on. S.move n r.a (e r.b) (on 0 l))
    ∷ (2, λ r e n l on. S.jmp n (e r.a) (on 0 l))
    ∷ (3, λ r e n l on. S.cpuexn n (on 0 l))
    ∷ (4, λ r e n l on. S.special n (on 0 l))
    ∷ (5, λ r e n l on. S.while n (e r.a) (on 0 r.b) (on r.b (l - r.b)))
    ∷ (6, λ r e n l on. S.if n (e r.a) (on 0 r.b) (on r.b r.c) (on (r.b + r.c) (l - (r.b + r.c))))
    ∷ []

-- the block of l statements that starts with statement n, by the blocks that start behind it
unfoldable pub starting_at : List ℕ → ℕ → List (ℕ → Block) → ℕ → Block
unfolding starters statement expr
starting_at s n behind zero = S.end
starting_at s n behind (suc l) =
    let r = statement s n in
    numbered (λ r e n l on. S.end) starters r.op r (expr s) n l (λ m. get_or behind m (λ l. S.end))

-- the blocks that start at each of the last k statements
unfoldable pub blocks : List ℕ → ℕ → List (ℕ → Block)
unfolding starting_at header
blocks s zero = []
blocks s (suc k) = let behind = blocks s k in starting_at s ((header s).statements - suc k) behind ∷ behind

-- the block of so many statements that starts with statement n
unfoldable pub block_at : List ℕ → ℕ → ℕ → Block
unfolding blocks header
block_at s n = get_or (blocks s (header s).statements) n (λ l. S.end)

-- the whole
unfoldable pub program : List ℕ → Block
unfolding block_at header
program s = block_at s 0 (header s).statements
