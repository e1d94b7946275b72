-- Expressions and blocks whose numbers are within their bounds; those of a table whose records hold are. Assumes nothing.
use mathlib.Core.Path.{◌≡◌}
use mathlib.Core.Bool.{Bool}
use mathlib.Core.List.{List}
use Prim.Native.Nat.{ℕ, zero, suc, ◌+◌, ◌≤◌, ◌<◌}
use native.Mathlib.Omega.{arith}
use Rattle.word.specs.Words.{Width, IsWord}
use Rattle.value.specs.declared.ValueType.{ValueType}
use Rattle.value.specs.Values.{TypeOk}
use Rattle.table.specs.Bytes.{header, variable}
use Rattle.table.specs.Decode.{expr}
use Rattle.table.specs.Syntax as S
use Rattle.table.specs.Syntax.{Expr, Block, ◌then◌}
use Rattle.table.specs.Asked.{SizeOk}
use Rattle.table.proofs.View.{View, v_var, v_word, v_load, v_store, v_binary, v_unary, v_cast, v_let, v_unknown, v_ite, v_extract, v_concat}
use Rattle.table.proofs.View.{Reads, r_end, r_move, r_jmp, r_cpuexn, r_special, r_while, r_if}

-- ------------------------------------------------------------------------------------------------
-- Expressions

-- over the first n variables
pub data Formed (n : ℕ) : Expr → Type 0 where
  f_var : {x : ℕ} → x < n → Formed n (S.var x)
  f_word : {w v : ℕ} → IsWord w v → Formed n (S.word w v)
  f_load : {z : ℕ} {big : Bool} {m e : Expr} → SizeOk z → Formed n m → Formed n e → Formed n (S.load z big m e)
  f_store : {z : ℕ} {big : Bool} {m e v : Expr} → SizeOk z → Formed n m → Formed n e → Formed n v → Formed n (S.store z big m e v)
  f_binary : {sub : ℕ} {e f : Expr} → Formed n e → Formed n f → Formed n (S.binary sub e f)
  f_unary : {sub : ℕ} {e : Expr} → Formed n e → Formed n (S.unary sub e)
  f_cast : {sub p : ℕ} {e : Expr} → Width p → Formed n e → Formed n (S.cast sub p e)
  f_let : {x : ℕ} {e f : Expr} → x < n → Formed n e → Formed n f → Formed n (S.lets x e f)
  f_unknown : {t : ValueType} → TypeOk t → Formed n (S.unknown t)
  f_ite : {c e f : Expr} → Formed n c → Formed n e → Formed n f → Formed n (S.ite c e f)
  f_extract : {p q : ℕ} {e : Expr} → q ≤ p → p ≤ q + 63 → Formed n e → Formed n (S.extract p q e)
  f_concat : {e f : Expr} → Formed n e → Formed n f → Formed n (S.concat e f)

-- each expression from those before it
formed_view : {s : List ℕ} {i : ℕ} {e : Expr} → View s i e → ((k : ℕ) → k < i → Formed (header s).variables (expr s k)) → Formed (header s).variables e
formed_view (v_var o a) f = f_var a
formed_view (v_word o w) f = f_word w
formed_view (v_load o z a b) f = f_load z (f _ a) (f _ b)
formed_view (v_store o z a b c) f = f_store z (f _ a) (f _ b) (f _ c)
formed_view (v_binary o l h a b) f = f_binary (f _ a) (f _ b)
formed_view (v_unary o l h a) f = f_unary (f _ a)
formed_view (v_cast o l h w a) f = f_cast w (f _ a)
formed_view (v_let o x r b c) f = f_let x (f _ b) (f _ c)
formed_view (v_unknown o t) f = f_unknown t
formed_view (v_ite o a b c) f = f_ite (f _ a) (f _ b) (f _ c)
formed_view (v_extract o l h a) f = f_extract l h (f _ a)
formed_view (v_concat o a b) f = f_concat (f _ a) (f _ b)

module _ (s : List ℕ) (views : (i : ℕ) → i < (header s).expressions → View s i (expr s i)) where
  formed_below : (n i : ℕ) → i < n → i < (header s).expressions → Formed (header s).variables (expr s i)
  formed_below zero i l h = absurd (omega arith)
  formed_below (suc n) i l h = formed_view (views i h) (λ k b. formed_below n k (omega arith) (omega arith))

  pub formed : (i : ℕ) → i < (header s).expressions → Formed (header s).variables (expr s i)
  formed i h = formed_below (suc i) i (omega arith) h

-- ------------------------------------------------------------------------------------------------
-- Blocks

-- of a table: moves are to its state variables
pub data FormedBlock (s : List ℕ) : Block → Type 0 where
  f_end : FormedBlock s S.end
  f_move :
      {n x : ℕ} {e : Expr} {k : Block} → x < (header s).variables → (variable s x).role ≡ 0 → Formed (header s).variables e → FormedBlock s k
      → FormedBlock s (S.move n x e k)
  f_jmp : {n : ℕ} {e : Expr} {k : Block} → Formed (header s).variables e → FormedBlock s k → FormedBlock s (S.jmp n e k)
  f_cpuexn : {n : ℕ} {k : Block} → FormedBlock s k → FormedBlock s (S.cpuexn n k)
  f_special : {n : ℕ} {k : Block} → FormedBlock s k → FormedBlock s (S.special n k)
  f_while : {n : ℕ} {e : Expr} {b k : Block} → Formed (header s).variables e → FormedBlock s b → FormedBlock s k → FormedBlock s (S.while n e b k)
  f_if :
      {n : ℕ} {e : Expr} {b c k : Block} → Formed (header s).variables e → FormedBlock s b → FormedBlock s c → FormedBlock s k
      → FormedBlock s (S.if n e b c k)

pub formed_then : {s : List ℕ} {b k : Block} → FormedBlock s b → FormedBlock s k → FormedBlock s (b then k)
unfolding ◌then◌
formed_then f_end k = k
formed_then (f_move x r e b) k = f_move x r e (formed_then b k)
formed_then (f_jmp e b) k = f_jmp e (formed_then b k)
formed_then (f_cpuexn b) k = f_cpuexn (formed_then b k)
formed_then (f_special b) k = f_special (formed_then b k)
formed_then (f_while e b c) k = f_while e b (formed_then c k)
formed_then (f_if e b c d) k = f_if e b c (formed_then d k)

pub formed_block :
    {s : List ℕ} {n l : ℕ} {k : Block} → ((i : ℕ) → i < (header s).expressions → View s i (expr s i)) → Reads s n l k → FormedBlock s k
formed_block views r_end = f_end
formed_block {s} views (r_move o x r e k) = f_move x r (formed s views _ e) (formed_block views k)
formed_block {s} views (r_jmp o e k) = f_jmp (formed s views _ e) (formed_block views k)
formed_block views (r_cpuexn o k) = f_cpuexn (formed_block views k)
formed_block views (r_special o k) = f_special (formed_block views k)
formed_block {s} views (r_while o e l h b k) = f_while (formed s views _ e) (formed_block views b) (formed_block views k)
formed_block {s} views (r_if o e l h b c k) = f_if (formed s views _ e) (formed_block views b) (formed_block views c) (formed_block views k)
