-- An expression of an accepted table by the order of its evaluation: its operands, their types, and that values of these types are what
-- its op asks for. Assumes nothing.
use mathlib.Core.Path.{◌≡◌, refl, sym, ap₂, subst, ◌∙◌}
use mathlib.Core.Bool.{true, false}
use mathlib.Core.List.{List, ◌∷◌}
use Prim.Native.Nat.{ℕ, ◌+◌, ◌<◌}
use native.Mathlib.Omega.{arith}
use lib.Dec.{ltb}
use lib.ListN.{length}
use borrow.Author.Tests.{le-leb, lt-leb}
use Rattle.base.specs.declared.codes.Stop.TheVariants as Stops
use Rattle.word.specs.Subs as Subs
use Rattle.value.specs.declared.ValueType.{ValueType}
use Rattle.value.specs.declared.Value.{Value}
use Rattle.value.specs.Values.{type_of, size}
use Rattle.table.specs.declared.Node.{Node}
use Rattle.table.specs.Bytes.{header, expression}
use Rattle.table.specs.Decode.{Context, context, expr}
use Rattle.table.specs.Syntax.{Expr}
use Rattle.table.proofs.View.{View, v_var, v_word, v_load, v_store, v_binary, v_unary, v_cast, v_let, v_unknown, v_ite, v_extract, v_concat}
use Rattle.typing.specs.Typing.{◌⊢◌∶◌, T-VAR, T-INT, T-LOAD, T-STORE, T-AOP, T-LOP, T-UOP, T-CAST-NARROW, T-CAST-WIDEN, T-LET, T-UNKNOWN}
use Rattle.typing.specs.Typing.{T-ITE, T-EXTRACT, T-CONCAT}
use Rattle.memory.specs.Log.{Log}
use Rattle.memory.specs.Typed.{Has}
use Rattle.evaluation.specs.Evaluation.{Evaluated, value, stopped, ◌and_then◌, eval, Binding, most_bindings}
use Rattle.operation.specs.declared.order.Steps.{Steps}
use Rattle.operation.specs.declared.order.Steps.TheVariants as By
use Rattle.operation.specs.Order.{orders, steps_of}
use Rattle.operation.specs.ByOp.{leaves, at_once, leaf_value, ones, one_value, twos, two_value, threes, three_value, OneFits, TwoFits, ThreeFits}

pub data Step (s : List ℕ) (i : ℕ) (r : Node) : Steps → Type 0 where
  leaf : (r.op ≡ 1 → r.a < (header s).variables) → Step s i r By.Leaf
  one : {a : ℕ} {t : ValueType} → a < i → context s ⊢ expr s a ∶ t → ((L : Log) (x : Value) → Has L x t → OneFits r x) → Step s i r (By.One a)
  two :
      {a b : ℕ} {t u : ValueType} → a < i → b < i → context s ⊢ expr s a ∶ t → context s ⊢ expr s b ∶ u
      → ((L : Log) (x y : Value) → Has L x t → Has L y u → TwoFits L r x y) → Step s i r (By.Two a b)
  lets :
      {a b : ℕ} {t : ValueType} → a < i → b < i → r.a < (header s).variables → context s ⊢ expr s a ∶ (context s).type r.a → context s ⊢ expr s b ∶ t
      → Step s i r (By.Let a b)
  three :
      {a b c : ℕ} {t u v : ValueType} → a < i → b < i → c < i → context s ⊢ expr s a ∶ t → context s ⊢ expr s b ∶ u → context s ⊢ expr s c ∶ v
      → ((L : Log) (x y z : Value) → Has L x t → Has L y u → Has L z v → ThreeFits L r x y z) → Step s i r (By.Three a b c)

-- its operands are earlier expressions
abbrev pub Below : ℕ → Steps → Type 0
Below i By.Leaf = Unit {0}
Below i (By.One a) = a < i
Below i (By.Two a b) = (a < i) × (b < i)
Below i (By.Let a b) = (a < i) × (b < i)
Below i (By.Three a b c) = (a < i) × (b < i) × (c < i)

pub step_below : {s : List ℕ} {i : ℕ} {r : Node} {o : Steps} → Step s i r o → Below i o
step_below (leaf h) = tt
step_below (one h d f) = h
step_below (two h g d e f) = (h, g)
step_below (lets h g x d f) = (h, g)
step_below (three h g k d e u f) = (h, g, k)

-- ------------------------------------------------------------------------------------------------
-- Each expression by its op

cast_fits : {L : Log} {x : Value} {w : ℕ} (sub p : ℕ) → Has L x (ValueType.Imm w) → Subs.CastFits sub w p → Subs.CastFits sub (size (type_of x)) p
cast_fits sub p h f = subst (λ (t : ValueType). Subs.CastFits sub (size t) p) (sym h.type) f

pub step : {s : List ℕ} {i : ℕ} {e : Expr} {t : ValueType} → View s i e → context s ⊢ e ∶ t → Step s i (expression s i) (steps_of (expression s i))
unfolding steps_of orders
step (v_var o a) T-VAR = rw o (leaf (λ _. a))
step (v_word o w) T-INT = rw o (leaf (λ e. absurd (omega arith)))
step (v_load o z a b) (T-LOAD {a = w} m e) =
    rw o (two b a e m (λ L x y p q. record {
      first = p.sound;
      second = q.sound;
      sized = λ _. z;
      addressed = λ _. record { width = w; memory = q; address = p };
      same = λ k. absurd (omega arith);
      joined = λ k. absurd (omega arith);
    }))
step (v_store o z a b c) (T-STORE {a = w} m e v) =
    rw o (three c b a v e m (λ L x y z₀ p q k. record {
      first = p.sound;
      second = q.sound;
      sized = λ _. z;
      addressed = λ _. record { width = w; memory = k; address = q };
      same = λ n. absurd (omega arith);
    }))
step (v_binary o l h a b) (T-AOP n e f) = rw o (two a b e f (λ L x y p q. record {
  first = p.sound;
  second = q.sound;
  sized = λ k. absurd (omega arith);
  addressed = λ k. absurd (omega arith);
  same = λ _. p.type ∙ sym q.type;
  joined = λ k. absurd (omega arith);
}))
step (v_binary o l h a b) (T-LOP n e f) = rw o (two a b e f (λ L x y p q. record {
  first = p.sound;
  second = q.sound;
  sized = λ k. absurd (omega arith);
  addressed = λ k. absurd (omega arith);
  same = λ _. p.type ∙ sym q.type;
  joined = λ k. absurd (omega arith);
}))
step (v_unary o l h a) (T-UOP e) = rw o (one a e (λ L x p. record {
  sound = p.sound;
  width = λ k. absurd (omega arith);
  cast = λ k. absurd (omega arith);
  ordered = λ k. absurd (omega arith);
  few = λ k. absurd (omega arith);
}))
step (v_cast o l h w a) (T-CAST-NARROW {sub = sub} {p = z} n m e) = rw o (one a e (λ L x p. record {
  sound = p.sound;
  width = λ _. w;
  cast = λ _. cast_fits sub z p (rw (le-leb sub 2 n) m);
  ordered = λ k. absurd (omega arith);
  few = λ k. absurd (omega arith);
}))
step (v_cast o l h w a) (T-CAST-WIDEN {sub = sub} {p = z} n m e) = rw o (one a e (λ L x p. record {
  sound = p.sound;
  width = λ _. w;
  cast = λ _. cast_fits sub z p (rw (lt-leb sub 2 n) m);
  ordered = λ k. absurd (omega arith);
  few = λ k. absurd (omega arith);
}))
step (v_let o x r b c) (T-LET e f) = rw o (lets b c x e f)
step (v_unknown o t) T-UNKNOWN = rw o (leaf (λ e. absurd (omega arith)))
step (v_ite o a b c) (T-ITE g e f) = rw o (three c b a f e g (λ L x y z p q k. record {
  first = p.sound;
  second = q.sound;
  sized = λ n. absurd (omega arith);
  addressed = λ n. absurd (omega arith);
  same = λ _. q.type ∙ sym p.type;
}))
step (v_extract o l h a) (T-EXTRACT e) = rw o (one a e (λ L x p. record {
  sound = p.sound;
  width = λ k. absurd (omega arith);
  cast = λ k. absurd (omega arith);
  ordered = λ _. l;
  few = λ _. h;
}))
step (v_concat o a b) (T-CONCAT n e f) = rw o (two a b e f (λ L x y p q. record {
  first = p.sound;
  second = q.sound;
  sized = λ k. absurd (omega arith);
  addressed = λ k. absurd (omega arith);
  same = λ k. absurd (omega arith);
  joined = λ _. let e = ap₂ (λ (t u : ValueType). size t + size u) p.type q.type in omega arith;
}))

-- ------------------------------------------------------------------------------------------------
-- An evaluation is that of the operands in their order, and then the op's

module _ (Γ : Context) (room : ℕ) (σ : List ℕ) (at : ℕ → List Binding → Log → Evaluated) (r : Node) where
  unfoldable pub eval_by : Steps → List Binding → Log → Evaluated
  unfolding ◌and_then◌ leaf_value one_value two_value three_value
  eval_by By.Leaf ρ L = value (leaf_value Γ σ r ρ) L
  eval_by (By.One a) ρ L = at a ρ L and_then λ x L. value (one_value r x) L
  eval_by (By.Two a b) ρ L = at a ρ L and_then λ x L. at b ρ L and_then λ y L. value (two_value L r x y) L
  eval_by (By.Let a b) ρ L =
      at a ρ L and_then λ x L. elim (ltb (length ρ) most_bindings) [ true ↦ at b (record { variable = r.a; bound = x } ∷ ρ) L | false ↦ stopped Stops.TooManyBindings L ]
  eval_by (By.Three a b c) ρ L = at a ρ L and_then λ x L. at b ρ L and_then λ y L. at c ρ L and_then λ z L. three_value room L r x y z

module _ (s : List ℕ) (room : ℕ) (σ : List ℕ) where
  abbrev pub eval_at : ℕ → List Binding → Log → Evaluated
  eval_at k ρ L = eval (context s) room σ (expr s k) ρ L

  pub eval-by : {i : ℕ} {e : Expr} → View s i e → (ρ : List Binding) (L : Log)
      → eval (context s) room σ e ρ L ≡ eval_by (context s) room σ eval_at (expression s i) (steps_of (expression s i)) ρ L
  unfolding eval eval_by steps_of orders leaf_value at_once leaves one_value ones two_value twos three_value threes
  eval-by (v_var o a) ρ L = rw o refl
  eval-by (v_word o w) ρ L = rw o refl
  eval-by (v_load o z a b) ρ L = rw o refl
  eval-by (v_store o z a b c) ρ L = rw o refl
  eval-by (v_binary o l h a b) ρ L = rw o refl
  eval-by (v_unary o l h a) ρ L = rw o refl
  eval-by (v_cast o l h w a) ρ L = rw o refl
  eval-by (v_let o x r b c) ρ L = rw o refl
  eval-by (v_unknown o t) ρ L = rw o refl
  eval-by (v_ite o a b c) ρ L = rw o refl
  eval-by (v_extract o l h a) ρ L = rw o refl
  eval-by (v_concat o a b) ρ L = rw o refl
