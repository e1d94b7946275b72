-- The seal rules as rules: `Seals Γ e sealed` says that expression e breaks none and what its label is. Assumes nothing.
use Rattle.std.specs.Prelude.{◌≡◌, Bool, true, false, ◌||◌, List, ℕ, ◌<◌}
use Rattle.value.specs.declared.ValueType.{ValueType}
use Rattle.table.specs.Bytes.{header}
use Rattle.table.specs.Decode.{Context, context, expr, program}
use Rattle.table.specs.Syntax as S
use Rattle.table.specs.Syntax.{Expr, Block}

-- "Words and unknowns are open. A variable has its declared label. A let has its body's label. Any other node is sealed if an
-- operand is. Refused: a load or store whose address is sealed; a let whose bound expression is sealed and whose variable is open"
pub data Seals (Γ : Context) : Expr → Bool → Type 0 where
  S-VAR : {x : ℕ} → Seals Γ (S.var x) (Γ.sealed x)
  S-WORD : {w v : ℕ} → Seals Γ (S.word w v) false
  S-UNKNOWN : {t : ValueType} → Seals Γ (S.unknown t) false
  S-LOAD : {z : ℕ} {big l : Bool} {m e : Expr} → Seals Γ m l → Seals Γ e false → Seals Γ (S.load z big m e) l
  S-STORE : {z : ℕ} {big l k : Bool} {m e v : Expr} → Seals Γ m l → Seals Γ e false → Seals Γ v k → Seals Γ (S.store z big m e v) (l || k)
  S-BINARY : {sub : ℕ} {l k : Bool} {e f : Expr} → Seals Γ e l → Seals Γ f k → Seals Γ (S.binary sub e f) (l || k)
  S-UNARY : {sub : ℕ} {l : Bool} {e : Expr} → Seals Γ e l → Seals Γ (S.unary sub e) l
  S-CAST : {sub p : ℕ} {l : Bool} {e : Expr} → Seals Γ e l → Seals Γ (S.cast sub p e) l
  S-LET : {x : ℕ} {l k : Bool} {e f : Expr} → Seals Γ e l → (Γ.sealed x ≡ false → l ≡ false) → Seals Γ f k → Seals Γ (S.lets x e f) k
  S-ITE : {l k j : Bool} {c e f : Expr} → Seals Γ c l → Seals Γ e k → Seals Γ f j → Seals Γ (S.ite c e f) (l || (k || j))
  S-EXTRACT : {p q : ℕ} {l : Bool} {e : Expr} → Seals Γ e l → Seals Γ (S.extract p q e) l
  S-CONCAT : {l k : Bool} {e f : Expr} → Seals Γ e l → Seals Γ f k → Seals Γ (S.concat e f) (l || k)

-- an expression that itself breaks one of these rules, by its operand's label
pub data Breaks (Γ : Context) : Expr → Type 0 where
  B-LOAD : {z : ℕ} {big : Bool} {m e : Expr} → Seals Γ e true → Breaks Γ (S.load z big m e)
  B-STORE : {z : ℕ} {big : Bool} {m e v : Expr} → Seals Γ e true → Breaks Γ (S.store z big m e v)
  B-LET : {x : ℕ} {e f : Expr} → Γ.sealed x ≡ false → Seals Γ e true → Breaks Γ (S.lets x e f)

-- "a sealed expression moved to an open variable; a sealed jump or guard" are refused
pub data Clean (Γ : Context) : Block → Type 0 where
  S-END : Clean Γ S.end
  S-MOVE : {n x : ℕ} {l : Bool} {e : Expr} {k : Block} → Seals Γ e l → (Γ.sealed x ≡ false → l ≡ false) → Clean Γ k → Clean Γ (S.move n x e k)
  S-JMP : {n : ℕ} {e : Expr} {k : Block} → Seals Γ e false → Clean Γ k → Clean Γ (S.jmp n e k)
  S-CPUEXN : {n : ℕ} {k : Block} → Clean Γ k → Clean Γ (S.cpuexn n k)
  S-SPECIAL : {n : ℕ} {k : Block} → Clean Γ k → Clean Γ (S.special n k)
  S-WHILE : {n : ℕ} {e : Expr} {b k : Block} → Seals Γ e false → Clean Γ b → Clean Γ k → Clean Γ (S.while n e b k)
  S-IF : {n : ℕ} {e : Expr} {b c k : Block} → Seals Γ e false → Clean Γ b → Clean Γ c → Clean Γ k → Clean Γ (S.if n e b c k)

-- no expression and no statement of a table breaks a seal rule
pub record SealHolds (s : List ℕ) : Type 0 where
  pub expressions : (i : ℕ) → i < (header s).expressions → (l : Bool) × Seals (context s) (expr s i) l
  pub program : Clean (context s) (program s)
