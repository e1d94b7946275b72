-- Refusals 14 and 15 decide the seal rules: an expression has a label by the rules exactly where `label_of` finds it, and neither refusal
-- finds anything exactly where every expression has one and the program is clean. Assumes nothing.
use Rattle.std.specs.Prelude.{Option, Some, None}
use mathlib.Core.Path.{◌≡◌, refl, sym, ◌∙◌}
use mathlib.Core.Bool.{Bool, true, false, ◌||◌, false≢true}
use mathlib.Core.List.{List}
use mathlib.Core.Logic.{◌↔◌}
use Prim.Native.Nat.{ℕ, ◌<◌}
use native.Mathlib.Omega.{arith}
use Rattle.base.proofs.BoolLaws.{impossible}
use Rattle.base.proofs.RangeLaws.{Each, each_below, each_none, each_head, each_part, each_cons, each_join}
use Rattle.table.specs.Bytes.{header}
use Rattle.table.specs.Decode.{Context, context, expr, program}
use Rattle.table.specs.Syntax as S
use Rattle.table.specs.Syntax.{Expr, Block}
use Rattle.table.proofs.View as By
use Rattle.table.proofs.View.{Reads}
use Rattle.sealing.specs.Sealing as Rules
use Rattle.sealing.specs.Sealing.{Seals, Clean, SealHolds}
use Rattle.sealing.specs.Labels.{may_go, when, either, label_of, has_label}
use Rattle.sealing.specs.Verdict.{statement_seals, statement_clean}

-- ------------------------------------------------------------------------------------------------
-- The pieces of `label_of`, read back: what a label was made of, for what follows from that

of_one : {k l : Bool} → Some k ≡ Some l → k ≡ l
of_one h = cc

module _ {X : Type 0} where
  when_of : {l : Bool} (b : Bool) (o : Option Bool) → when b o ≡ Some l → (b ≡ true → o ≡ Some l → X) → X
  unfolding when
  when_of true o h on = on refl h
  when_of false o h on = impossible (cc)

  either_of : {l : Bool} (o p : Option Bool) → either o p ≡ Some l → ((k j : Bool) → o ≡ Some k → p ≡ Some j → (k || j) ≡ l → X) → X
  unfolding either
  either_of None p h on = impossible (cc)
  either_of (Some k) None h on = impossible (cc)
  either_of (Some k) (Some j) h on = on k j refl refl (of_one h)

  may_go_of : (place : Bool) (o : Option Bool) → may_go place o ≡ true → ((l : Bool) → o ≡ Some l → (place ≡ false → l ≡ false) → X) → X
  unfolding may_go
  may_go_of place None h on = absurd (false≢true h)
  may_go_of place (Some true) h on = on true refl (λ e. sym h ∙ e)
  may_go_of place (Some false) h on = on false refl (λ e. refl)

may-go : (place l : Bool) → (place ≡ false → l ≡ false) → may_go place (Some l) ≡ true
unfolding may_go
may-go true true h = refl
may-go false true h = sym (h refl)
may-go place false h = refl

open_of : (o : Option Bool) → may_go false o ≡ true → o ≡ Some false
open_of o h = may_go_of false o h λ l e c. rw (c refl) at e

has_label-iff : (o : Option Bool) → (has_label o ≡ true) ↔ ((l : Bool) × (o ≡ Some l))
unfolding has_label
has_label-iff None = (λ h. absurd (false≢true h), λ h. let e = h.1 in impossible (cc))
has_label-iff (Some l) = (λ h. (l, refl), λ h. refl)

-- ------------------------------------------------------------------------------------------------
-- Labels are decided

found : {Γ : Context} {e : Expr} {l : Bool} → Seals Γ e l → label_of Γ e ≡ Some l
unfolding label_of
found Rules.S-VAR = refl
found Rules.S-WORD = refl
found Rules.S-UNKNOWN = refl
found (Rules.S-LOAD m e) = rw (found m, found e)
found (Rules.S-STORE m e v) = rw (found m, found e, found v)
found (Rules.S-BINARY e f) = rw (found e, found f)
found (Rules.S-UNARY e) = found e
found (Rules.S-CAST e) = found e
found (Rules.S-LET e c f) = rw (found e, may-go _ _ c) (found f)
found (Rules.S-ITE c e f) = rw (found c, found e, found f)
found (Rules.S-EXTRACT e) = found e
found (Rules.S-CONCAT e f) = rw (found e, found f)

labelled : {Γ : Context} {e : Expr} {k l : Bool} → k ≡ l → Seals Γ e k → Seals Γ e l
labelled h d = rw h at d

seals : {Γ : Context} (e : Expr) {l : Bool} → label_of Γ e ≡ Some l → Seals Γ e l
unfolding label_of
seals (S.var x) h = labelled (of_one h) Rules.S-VAR
seals (S.word w v) h = labelled (of_one h) Rules.S-WORD
seals (S.load z big m e) h = when_of _ _ h λ a p. Rules.S-LOAD (seals m p) (seals e (open_of _ a))
seals (S.store z big m e v) h =
    when_of _ _ h λ a p. either_of _ _ p λ k j q r t. labelled t (Rules.S-STORE (seals m q) (seals e (open_of _ a)) (seals v r))
seals (S.binary sub e f) h = either_of _ _ h λ k j q r t. labelled t (Rules.S-BINARY (seals e q) (seals f r))
seals (S.unary sub e) h = Rules.S-UNARY (seals e h)
seals (S.cast sub p e) h = Rules.S-CAST (seals e h)
seals (S.lets x e f) h = when_of _ _ h λ a p. may_go_of _ _ a λ k q c. Rules.S-LET (seals e q) c (seals f p)
seals (S.unknown t) h = labelled (of_one h) Rules.S-UNKNOWN
seals (S.ite c e f) h =
    either_of _ _ h λ k j q p t. either_of _ _ p λ i o r u v. labelled (rw v t) (Rules.S-ITE (seals c q) (seals e r) (seals f u))
seals (S.extract p q e) h = Rules.S-EXTRACT (seals e h)
seals (S.concat e f) h = either_of _ _ h λ k j q r t. labelled t (Rules.S-CONCAT (seals e q) (seals f r))
seals S.bad h = impossible (cc)

pub label_decides : {Γ : Context} {e : Expr} {l : Bool} → (label_of Γ e ≡ Some l) ↔ Seals Γ e l
label_decides {e = e} = (seals e, found)

pub some_label_iff : {Γ : Context} {e : Expr} → (has_label (label_of Γ e) ≡ true) ↔ ((l : Bool) × Seals Γ e l)
some_label_iff {e = e} = (λ h. let (l, p) = (has_label-iff _).0 h in (l, seals e p), λ d. (has_label-iff _).1 (d.0, found d.1))

-- ------------------------------------------------------------------------------------------------
-- Statements

-- the l statements from statement n on keep their rules
abbrev Kept : List ℕ → ℕ → ℕ → Type 0
Kept s = Each (λ i. statement_clean s i ≡ true)

kept_clean : {s : List ℕ} {n l : ℕ} {k : Block} → Reads s n l k → Kept s n l → Clean (context s) k
unfolding statement_clean statement_seals
kept_clean By.r_end h = Rules.S-END
kept_clean (By.r_move op x r b k) h =
    may_go_of _ _ (rw op at (each_head h)) λ l e c. Rules.S-MOVE (seals _ e) c (kept_clean k (each_part h (omega arith)))
kept_clean (By.r_jmp op a k) h = Rules.S-JMP (seals _ (open_of _ (rw op at (each_head h)))) (kept_clean k (each_part h (omega arith)))
kept_clean (By.r_cpuexn op k) h = Rules.S-CPUEXN (kept_clean k (each_part h (omega arith)))
kept_clean (By.r_special op k) h = Rules.S-SPECIAL (kept_clean k (each_part h (omega arith)))
kept_clean (By.r_while op a l m b k) h =
    Rules.S-WHILE (seals _ (open_of _ (rw op at (each_head h)))) (kept_clean b (each_part h (omega arith)))
    (kept_clean k (each_part h (omega arith)))
kept_clean (By.r_if op a l m b c k) h =
    Rules.S-IF (seals _ (open_of _ (rw op at (each_head h)))) (kept_clean b (each_part h (omega arith)))
    (kept_clean c (each_part h (omega arith))) (kept_clean k (each_part h (omega arith)))

clean_kept : {s : List ℕ} {n l : ℕ} {k : Block} → Reads s n l k → Clean (context s) k → Kept s n l
unfolding statement_clean statement_seals may_go
clean_kept By.r_end d = each_none
clean_kept (By.r_move op x r b k) (Rules.S-MOVE e f d) = each_cons (rw (op, found e) (may-go _ _ f)) (clean_kept k d)
clean_kept (By.r_jmp op a k) (Rules.S-JMP e d) = each_cons (rw (op, found e)) (clean_kept k d)
clean_kept (By.r_cpuexn op k) (Rules.S-CPUEXN d) = each_cons (rw op) (clean_kept k d)
clean_kept (By.r_special op k) (Rules.S-SPECIAL d) = each_cons (rw op) (clean_kept k d)
clean_kept (By.r_while op a l m b k) (Rules.S-WHILE e f d) =
    each_cons (rw (op, found e)) (each_part (each_join (clean_kept b f) (clean_kept k d)) (omega arith))
clean_kept (By.r_if op a l m b c k) (Rules.S-IF e f g d) =
    each_cons (rw (op, found e)) (each_part (each_join (each_join (clean_kept b f) (clean_kept c g)) (clean_kept k d)) (omega arith))

-- ------------------------------------------------------------------------------------------------
-- The whole table

-- rule 14 at every expression and rule 15 at every statement
pub seal_rules-iff :
    {s : List ℕ} → Reads s 0 (header s).statements (program s)
    → (((i : ℕ) → i < (header s).expressions → has_label (label_of (context s) (expr s i)) ≡ true)
    × ((i : ℕ) → i < (header s).statements → statement_clean s i ≡ true))
    ↔ SealHolds s
seal_rules-iff {s} reads = (
  λ h. record {
    expressions = λ i lt. some_label_iff.0 (h.0 i lt);
    program = kept_clean reads (each_below.1 h.1);
  },
  λ h. (λ i lt. some_label_iff.1 (h.expressions i lt), each_below.0 (clean_kept reads h.program)),
)
