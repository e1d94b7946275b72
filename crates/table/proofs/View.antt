-- A table whose records hold, seen as syntax: each expression by its op, with its operands' numbers, and each block by its
-- statements. Assumes nothing.
use mathlib.Core.Path.{◌≡◌}
use mathlib.Core.List.{List}
use Prim.Native.Nat.{ℕ, suc, ◌+◌, ◌-◌, ◌≤◌, ◌<◌}
use lib.Dec.{eqb}
use Rattle.word.specs.Words.{Width, IsWord}
use Rattle.value.specs.Values.{TypeOk}
use Rattle.table.specs.Asked.{SizeOk}
use Rattle.table.specs.Bytes.{header, variable, expression, statement}
use Rattle.table.specs.Fields.{word_value}
use Rattle.table.specs.Decode.{expr, unknown_type}
use Rattle.table.specs.Syntax as S
use Rattle.table.specs.Syntax.{Expr, Block}

-- expression i by its op
pub data View (s : List ℕ) (i : ℕ) : Expr → Type 0 where
  v_var : (expression s i).op ≡ 1 → (expression s i).a < (header s).variables → View s i (S.var (expression s i).a)
  v_word :
      (expression s i).op ≡ 2 → IsWord (expression s i).p (word_value (expression s i)) → View s i (S.word (expression s i).p (word_value (expression s i)))
  v_load :
      (expression s i).op ≡ 3 → SizeOk (expression s i).p → (expression s i).a < i → (expression s i).b < i
      → View s i (S.load (expression s i).p (eqb (expression s i).q 1) (expr s (expression s i).a) (expr s (expression s i).b))
  v_store :
      (expression s i).op ≡ 4 → SizeOk (expression s i).p → (expression s i).a < i → (expression s i).b < i → (expression s i).c < i
      → View s i (S.store (expression s i).p (eqb (expression s i).q 1) (expr s (expression s i).a) (expr s (expression s i).b) (expr s (expression s i).c))
  v_binary :
      (expression s i).op ≡ 5 → 1 ≤ (expression s i).sub → (expression s i).sub ≤ 19 → (expression s i).a < i → (expression s i).b < i
      → View s i (S.binary (expression s i).sub (expr s (expression s i).a) (expr s (expression s i).b))
  v_unary :
      (expression s i).op ≡ 6 → 1 ≤ (expression s i).sub → (expression s i).sub ≤ 2 → (expression s i).a < i
      → View s i (S.unary (expression s i).sub (expr s (expression s i).a))
  v_cast :
      (expression s i).op ≡ 7 → 1 ≤ (expression s i).sub → (expression s i).sub ≤ 4 → Width (expression s i).p → (expression s i).a < i
      → View s i (S.cast (expression s i).sub (expression s i).p (expr s (expression s i).a))
  v_let :
      (expression s i).op ≡ 8 → (expression s i).a < (header s).variables → (variable s (expression s i).a).role ≡ 1 → (expression s i).b < i → (expression s i).c < i
      → View s i (S.lets (expression s i).a (expr s (expression s i).b) (expr s (expression s i).c))
  v_unknown : (expression s i).op ≡ 9 → TypeOk (unknown_type (expression s i)) → View s i (S.unknown (unknown_type (expression s i)))
  v_ite :
      (expression s i).op ≡ 10 → (expression s i).a < i → (expression s i).b < i → (expression s i).c < i
      → View s i (S.ite (expr s (expression s i).a) (expr s (expression s i).b) (expr s (expression s i).c))
  v_extract :
      (expression s i).op ≡ 11 → (expression s i).q ≤ (expression s i).p → (expression s i).p ≤ (expression s i).q + 63 → (expression s i).a < i
      → View s i (S.extract (expression s i).p (expression s i).q (expr s (expression s i).a))
  v_concat :
      (expression s i).op ≡ 12 → (expression s i).a < i → (expression s i).b < i → View s i (S.concat (expr s (expression s i).a) (expr s (expression s i).b))

-- the block of l statements from statement n on, by their ops
pub data Reads (s : List ℕ) : ℕ → ℕ → Block → Type 0 where
  r_end : {n : ℕ} → Reads s n 0 S.end
  r_move :
      {n l : ℕ} {k : Block} → (statement s n).op ≡ 1 → (statement s n).a < (header s).variables → (variable s (statement s n).a).role ≡ 0
      → (statement s n).b < (header s).expressions → Reads s (suc n) l k
      → Reads s n (suc l) (S.move n (statement s n).a (expr s (statement s n).b) k)
  r_jmp :
      {n l : ℕ} {k : Block} → (statement s n).op ≡ 2 → (statement s n).a < (header s).expressions → Reads s (suc n) l k
      → Reads s n (suc l) (S.jmp n (expr s (statement s n).a) k)
  r_cpuexn : {n l : ℕ} {k : Block} → (statement s n).op ≡ 3 → Reads s (suc n) l k → Reads s n (suc l) (S.cpuexn n k)
  r_special : {n l : ℕ} {k : Block} → (statement s n).op ≡ 4 → Reads s (suc n) l k → Reads s n (suc l) (S.special n k)
  r_while :
      {n l : ℕ} {b k : Block} → (statement s n).op ≡ 5 → (statement s n).a < (header s).expressions → 1 ≤ (statement s n).b → (statement s n).b ≤ l
      → Reads s (suc n) (statement s n).b b → Reads s (suc n + (statement s n).b) (l - (statement s n).b) k
      → Reads s n (suc l) (S.while n (expr s (statement s n).a) b k)
  r_if :
      {n l : ℕ} {b c k : Block} → (statement s n).op ≡ 6 → (statement s n).a < (header s).expressions → 1 ≤ (statement s n).b
      → (statement s n).b + (statement s n).c ≤ l → Reads s (suc n) (statement s n).b b → Reads s (suc n + (statement s n).b) (statement s n).c c
      → Reads s (suc n + ((statement s n).b + (statement s n).c)) (l - ((statement s n).b + (statement s n).c)) k
      → Reads s n (suc l) (S.if n (expr s (statement s n).a) b c k)
