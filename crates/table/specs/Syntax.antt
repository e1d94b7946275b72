-- Expressions and statements: 002's syntax, narrowed by paper 01, whose op stands behind each constructor. Assumes nothing.
use Rattle.std.specs.Prelude.{Bool, ℕ}
use Rattle.value.specs.declared.ValueType.{ValueType}

pub data Expr : Type 0 where
  var : ℕ → Expr  -- 1: a variable
  word : ℕ → ℕ → Expr  -- 2: width, value
  load : ℕ → Bool → Expr → Expr → Expr  -- 3: size, whether big, memory, address
  store : ℕ → Bool → Expr → Expr → Expr → Expr  -- 4: size, whether big, memory, address, value
  binary : ℕ → Expr → Expr → Expr  -- 5: sub, left, right
  unary : ℕ → Expr → Expr  -- 6: sub, operand
  cast : ℕ → ℕ → Expr → Expr  -- 7: sub, new width, operand
  lets : ℕ → Expr → Expr → Expr  -- 8: a let variable, bound, body
  unknown : ValueType → Expr  -- 9: its type
  ite : Expr → Expr → Expr → Expr  -- 10: condition, then, else
  extract : ℕ → ℕ → Expr → Expr  -- 11: high, low, operand
  concat : Expr → Expr → Expr  -- 12: above, below
  bad : Expr  -- a record of no listed op

-- A block: its first statement, with the statement's number, and the rest of the block last.
pub data Block : Type 0 where
  end : Block
  move : ℕ → ℕ → Expr → Block → Block  -- 1: a state variable, an expression
  jmp : ℕ → Expr → Block → Block  -- 2: where to
  cpuexn : ℕ → Block → Block  -- 3: its number is dropped
  special : ℕ → Block → Block  -- 4: its number is dropped
  while : ℕ → Expr → Block → Block → Block  -- 5: guard, body
  if : ℕ → Expr → Block → Block → Block → Block  -- 6: guard, then, else

infixr 20 ◌then◌
-- one block and then another
unfoldable pub ◌then◌ : Block → Block → Block
end then k = k
move n x e r then k = move n x e (r then k)
jmp n e r then k = jmp n e (r then k)
cpuexn n r then k = cpuexn n (r then k)
special n r then k = special n (r then k)
while n e b r then k = while n e b (r then k)
if n e b c r then k = if n e b c (r then k)
