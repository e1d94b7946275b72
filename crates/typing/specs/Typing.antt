-- "Types are T_VAR to T_CONCAT of 002": its typing rules, one constructor each under its name. A name that the public copy has lost is made
-- like its neighbours' (docs/READING.md, 'From 002 to the definitions'). `narrowed` and `completed` mark where paper 01 narrows a rule of
-- 002 or completes one that the public copy has lost. Assumes nothing.
use Rattle.std.specs.Prelude.{Bool, List, ℕ, ◌+◌, ◌-◌, ◌≤◌, ◌<◌}
use Rattle.value.specs.declared.ValueType.{ValueType}
use Rattle.value.specs.declared.ValueType.TheVariants.{Imm, Mem}
use Rattle.table.specs.Bytes.{header}
use Rattle.table.specs.Decode.{Context, context, expr, program}
use Rattle.table.specs.Syntax as S
use Rattle.table.specs.Syntax.{Expr, Block}

infix 20 ◌⊢◌∶◌
-- Γ ⊢ exp :: type. The context is the table's list of variables, let variables included: refusal 11 sees to their scope. 002's premises
-- on sizes and on types being ok are refusals 5 and 6, of which 6 bounds the subs too; that no name enters Γ twice is 11.
pub data ◌⊢◌∶◌ (Γ : Context) : Expr → ValueType → Type 0 where
  T-VAR : {x : ℕ} → Γ ⊢ S.var x ∶ Γ.type x
  -- narrowed: "words of 1 to 64 bits"; refusal 6 sees to it
  T-INT : {w v : ℕ} → Γ ⊢ S.word w v ∶ Imm w
  -- narrowed: "memory elements of 8 bits", sizes are multiples of 8 up to 64 (refusal 6). "A load's address has the memory's
  -- address width"
  T-LOAD : {z a : ℕ} {big : Bool} {m e : Expr} → Γ ⊢ m ∶ Mem a → Γ ⊢ e ∶ Imm a → Γ ⊢ S.load z big m e ∶ Imm z
  -- "a store's value has the size named"
  T-STORE : {z a : ℕ} {big : Bool} {m e v : Expr} → Γ ⊢ m ∶ Mem a → Γ ⊢ e ∶ Imm a → Γ ⊢ v ∶ Imm z → Γ ⊢ S.store z big m e v ∶ Mem a
  -- "Binary operands have equal widths; subs 14 to 19 give 1 bit."
  T-AOP : {sub w : ℕ} {e f : Expr} → sub ≤ 13 → Γ ⊢ e ∶ Imm w → Γ ⊢ f ∶ Imm w → Γ ⊢ S.binary sub e f ∶ Imm w
  T-LOP : {sub w : ℕ} {e f : Expr} → 14 ≤ sub → Γ ⊢ e ∶ Imm w → Γ ⊢ f ∶ Imm w → Γ ⊢ S.binary sub e f ∶ Imm 1
  T-UOP : {sub w : ℕ} {e : Expr} → Γ ⊢ e ∶ Imm w → Γ ⊢ S.unary sub e ∶ Imm w
  -- "Low and high don't widen, signed and unsigned don't narrow."
  T-CAST-NARROW : {sub p w : ℕ} {e : Expr} → sub ≤ 2 → p ≤ w → Γ ⊢ e ∶ Imm w → Γ ⊢ S.cast sub p e ∶ Imm p
  T-CAST-WIDEN : {sub p w : ℕ} {e : Expr} → 3 ≤ sub → w ≤ p → Γ ⊢ e ∶ Imm w → Γ ⊢ S.cast sub p e ∶ Imm p
  -- "A let's bound expression has the variable's type." TG_CONS is refusal 11.
  T-LET : {x : ℕ} {t : ValueType} {e f : Expr} → Γ ⊢ e ∶ Γ.type x → Γ ⊢ f ∶ t → Γ ⊢ S.lets x e f ∶ t
  -- narrowed: the text "is dropped"
  T-UNKNOWN : {t : ValueType} → Γ ⊢ S.unknown t ∶ t
  -- "An ite has a 1-bit condition and branches of one type, memory allowed."
  T-ITE : {t : ValueType} {c e f : Expr} → Γ ⊢ c ∶ Imm 1 → Γ ⊢ e ∶ t → Γ ⊢ f ∶ t → Γ ⊢ S.ite c e f ∶ t
  T-EXTRACT : {p q w : ℕ} {e : Expr} → Γ ⊢ e ∶ Imm w → Γ ⊢ S.extract p q e ∶ Imm (p - q + 1)
  -- narrowed: "A concat is at most 64 bits."
  T-CONCAT : {w v : ℕ} {e f : Expr} → w + v ≤ 64 → Γ ⊢ e ∶ Imm w → Γ ⊢ f ∶ Imm v → Γ ⊢ S.concat e f ∶ Imm (w + v)

-- Γ ⊢ bil is ok, for a block (T_SEQ_ONE, T_SEQ_REC) of statements, with A the table's address width:
-- "A moved expression has its variable's type; guards are 1 bit; a jump is A bits." completed: the public copy has lost the rules of
-- special, while and if.
pub data Ok (Γ : Context) (A : ℕ) : Block → Type 0 where
  T-END : Ok Γ A S.end
  T-MOVE : {n x : ℕ} {e : Expr} {k : Block} → Γ ⊢ e ∶ Γ.type x → Ok Γ A k → Ok Γ A (S.move n x e k)
  -- narrowed: "a jump's expression has the table's address width"
  T-JMP : {n : ℕ} {e : Expr} {k : Block} → Γ ⊢ e ∶ Imm A → Ok Γ A k → Ok Γ A (S.jmp n e k)
  T-CPUEXN : {n : ℕ} {k : Block} → Ok Γ A k → Ok Γ A (S.cpuexn n k)
  T-SPECIAL : {n : ℕ} {k : Block} → Ok Γ A k → Ok Γ A (S.special n k)
  T-WHILE : {n : ℕ} {e : Expr} {b k : Block} → Γ ⊢ e ∶ Imm 1 → Ok Γ A b → Ok Γ A k → Ok Γ A (S.while n e b k)
  T-IF : {n : ℕ} {e : Expr} {b c k : Block} → Γ ⊢ e ∶ Imm 1 → Ok Γ A b → Ok Γ A c → Ok Γ A k → Ok Γ A (S.if n e b c k)

-- A table keeps the type rules: every expression has a type, and the program is ok (002: Γ ⊢ bil is ok).
pub record TypingHolds (s : List ℕ) : Type 0 where
  pub expressions : (i : ℕ) → i < (header s).expressions → (t : ValueType) × (context s ⊢ expr s i ∶ t)
  pub program : Ok (context s) (header s).width (program s)
