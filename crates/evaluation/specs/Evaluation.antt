-- The evaluation of expressions, in paper 01's order. The names in capitals are rules of 002. Its public copy has lost some of these names (those of
-- let, of the unary operations and of concat's steps): they are named as their neighbours are (docs/READING.md, 'From 002 to the definitions').
-- `completed` and `narrowed` mark where paper 01 completes or narrows them. Assumes nothing.
use Rattle.std.proofs.Math.Bool.{true, false}
use Rattle.std.specs.Prelude.{List, [], ◌∷◌, ℕ, eqb, ltb, length}
use Rattle.base.specs.declared.codes.Stop.{Stop}
use Rattle.base.specs.declared.codes.Stop.TheVariants as Stops
use Rattle.value.specs.declared.ValueType.TheVariants.{Imm}
use Rattle.value.specs.declared.Value.{Value}
use Rattle.value.specs.declared.Value.TheVariants.{Word, Unknown}
use Rattle.value.specs.Values as Values
use Rattle.table.specs.Decode.{Context}
use Rattle.table.specs.Syntax as S
use Rattle.table.specs.Syntax.{Expr}
use Rattle.memory.specs.Log.{Log}
use Rattle.memory.specs.Access as Access
use Rattle.evaluation.specs.State.{in_state}

-- a value and the log, or a stop and the log as it was then
pub data Evaluated : Type 0 where
  value : Value → Log → Evaluated
  stopped : Stop → Log → Evaluated

infixl 15 ◌and_then◌
-- "a stop where the run first meets it": what comes after a stop is not evaluated
unfoldable pub ◌and_then◌ : Evaluated → (Value → Log → Evaluated) → Evaluated
value v L and_then f = f v L
stopped code L and_then f = stopped code L

-- narrowed: the log has room for so many entries; 34: "a byte to append, log full"
unfoldable pub after_store : Access.Stored → Evaluated
after_store (Access.stored v L) = value v L
after_store (Access.full L) = stopped Stops.LogFull L

-- ------------------------------------------------------------------------------------------------
-- Bindings of let variables, the innermost first

pub record Binding : Type 0 where
  pub variable : ℕ
  pub bound : Value

-- narrowed: "At most 64 bindings in force travel with the walk."
abbrev pub most_bindings : ℕ
most_bindings = 64

-- VAR_IN, VAR_UNKNOWN: what a variable is bound to, else what the state has
unfoldable pub look : List Binding → Value → ℕ → Value
look [] other x = other
look (b ∷ outer) other x = elim (eqb b.variable x) [ true ↦ b.bound | false ↦ look outer other x ]

-- ------------------------------------------------------------------------------------------------
-- Evaluation, with the log's room, the bindings and the state

module _ (Γ : Context) (room : ℕ) (σ : List ℕ) where
  unfoldable pub eval : Expr → List Binding → Log → Evaluated
  unfolding ◌and_then◌ after_store look in_state Access.load Access.store
  eval (S.var x) ρ L = value (look ρ (in_state σ (Γ.type x) x) x) L
  eval (S.word w v) ρ L = value (Word w v) L
  -- "load address then memory" (LOAD_STEP_ADDR, LOAD_STEP_MEM)
  eval (S.load z big m e) ρ L = eval e ρ L and_then λ a L. eval m ρ L and_then λ c L. value (Access.load L z big c a) L
  -- "store value, address, memory" (STORE_STEP_VAL, STORE_STEP_ADDR, STORE_STEP_MEM)
  eval (S.store z big m e v) ρ L =
      eval v ρ L and_then λ b L. eval e ρ L and_then λ a L. eval m ρ L and_then λ c L. after_store (Access.store room L z big c a b)
  -- "binary and concat left then right" (BOP_LHS, BOP_RHS)
  eval (S.binary sub e f) ρ L = eval e ρ L and_then λ a L. eval f ρ L and_then λ b L. value (Values.binary sub a b) L
  -- UOP
  eval (S.unary sub e) ρ L = eval e ρ L and_then λ a L. value (Values.unary sub a) L
  -- CAST_REDUCE
  eval (S.cast sub p e) ρ L = eval e ρ L and_then λ a L. value (Values.cast sub p a) L
  -- "let bound then body" (LET_STEP, LET: by a binding, not by substitution); narrowed: 36, "a let would put a 65th binding in force"
  eval (S.lets x e f) ρ L =
      eval e ρ L and_then λ a L.
      elim (ltb (length ρ) most_bindings) [ true ↦ eval f (record { variable = x; bound = a } ∷ ρ) L | false ↦ stopped Stops.TooManyBindings L ]
  eval (S.unknown t) ρ L = value (Unknown t) L
  -- "ite else, then, condition" (ITE_STEP_ELSE, ITE_STEP_THEN, ITE_STEP_COND): "Both branches of an ite are evaluated."
  eval (S.ite c e f) ρ L = eval f ρ L and_then λ z L. eval e ρ L and_then λ y L. eval c ρ L and_then λ x L. value (Values.choose x y z) L
  -- EXTRACT_REDUCE
  eval (S.extract p q e) ρ L = eval e ρ L and_then λ a L. value (Values.extract p q a) L
  -- CONCAT_LHS, CONCAT_RHS
  eval (S.concat e f) ρ L = eval e ρ L and_then λ a L. eval f ρ L and_then λ b L. value (Values.concat a b) L
  -- no accepted table has one
  eval S.bad ρ L = value (Unknown (Imm 1)) L
