-- The place of refusal 14: the lowest expression that leaks is the lowest that breaks a rule itself. Assumes nothing.
use Rattle.std.specs.Prelude.{Option, Some, None}
use mathlib.Core.Path.{◌≡◌, refl, sym}
use mathlib.Core.Bool.{Bool, true, false, false≢true}
use mathlib.Core.List.{List}
use mathlib.Core.Logic.{◌↔◌}
use mathlib.Core.WellFounded.{fix}
use Prim.Native.Nat.{ℕ, ◌<◌}
use native.Mathlib.Omega.{arith}
use lib.WfN.{lt-wf_rel}
use Rattle.base.specs.Refusals.{HoldsBelow}
use Rattle.base.proofs.BoolLaws.{not_both}
use Rattle.table.specs.Bytes.{header}
use Rattle.table.specs.Decode.{Context, context, expr}
use Rattle.table.specs.Syntax.{Expr}
use Rattle.table.proofs.View as By
use Rattle.table.proofs.View.{View}
use Rattle.sealing.specs.Sealing as Rules
use Rattle.sealing.specs.Sealing.{Breaks}
use Rattle.sealing.specs.Labels.{may_go, when, either, load_label, store_label, let_label, label_of, has_label}
use Rattle.sealing.specs.Verdict.{expression_seal_rule}
use Rattle.sealing.proofs.SealLaws.{label_decides}

-- ------------------------------------------------------------------------------------------------
-- What leaks over operands that don't

of_has : (l : Bool) → has_label (Some l) ≡ true
unfolding has_label
of_has l = refl

either_has : (o p : Option Bool) → has_label o ≡ true → has_label p ≡ true → has_label (either o p) ≡ true
unfolding has_label either
either_has None p h k = h
either_has (Some l) None h k = k
either_has (Some l) (Some j) h k = refl

when_fails : (b : Bool) (o : Option Bool) → has_label o ≡ true → has_label (when b o) ≡ false → b ≡ false
unfolding when
when_fails true o h n = absurd (not_both h n)
when_fails false o h n = refl

-- a label that may not go to a place: the place is open, and it is sealed
stays : (place : Bool) (o : Option Bool) → has_label o ≡ true → may_go place o ≡ false → (place ≡ false) × (o ≡ Some true)
unfolding has_label may_go
stays place None h n = absurd (false≢true h)
stays place (Some true) h n = (n, refl)
stays place (Some false) h n = absurd (false≢true (sym n))

-- ------------------------------------------------------------------------------------------------
-- By op

module _ {s : List ℕ} {i : ℕ} (below : HoldsBelow (λ k. has_label (label_of (context s) (expr s k))) i) where
  breaks : {e : Expr} → View s i e → has_label (label_of (context s) e) ≡ false → Breaks (context s) e
  unfolding label_of load_label store_label let_label
  breaks (By.v_var op a) n = absurd (not_both (of_has _) n)
  breaks (By.v_word op w) n = absurd (not_both (of_has _) n)
  breaks (By.v_load op z a b) n =
      Rules.B-LOAD (label_decides.0 (stays false _ (below _ b) (when_fails _ _ (below _ a) n)).1)
  breaks (By.v_store op z a b c) n =
      Rules.B-STORE (label_decides.0 (stays false _ (below _ b) (when_fails _ _ (either_has _ _ (below _ a) (below _ c)) n)).1)
  breaks (By.v_binary op l m a b) n = absurd (not_both (either_has _ _ (below _ a) (below _ b)) n)
  breaks (By.v_unary op l m a) n = absurd (not_both (below _ a) n)
  breaks (By.v_cast op l m w a) n = absurd (not_both (below _ a) n)
  breaks (By.v_let op x r b c) n =
      let (p, q) = stays _ _ (below _ b) (when_fails _ _ (below _ c) n) in Rules.B-LET p (label_decides.0 q)
  breaks (By.v_unknown op t) n = absurd (not_both (of_has _) n)
  breaks (By.v_ite op a b c) n = absurd (not_both (either_has _ _ (below _ a) (either_has _ _ (below _ b) (below _ c))) n)
  breaks (By.v_extract op l m a) n = absurd (not_both (below _ a) n)
  breaks (By.v_concat op a b) n = absurd (not_both (either_has _ _ (below _ a) (below _ b)) n)

leaks : {Γ : Context} {e : Expr} → Breaks Γ e → has_label (label_of Γ e) ≡ false
unfolding label_of load_label store_label let_label has_label
leaks (Rules.B-LOAD d) = rw (label_decides.1 d)
leaks (Rules.B-STORE d) = rw (label_decides.1 d)
leaks (Rules.B-LET p d) = rw (label_decides.1 d, p)

-- ------------------------------------------------------------------------------------------------
-- The place

pub breaks_first :
    (s : List ℕ) → ((i : ℕ) → i < (header s).expressions → View s i (expr s i)) → (i : ℕ) → i < (header s).expressions
    → (HoldsBelow (expression_seal_rule s).holds i × ((expression_seal_rule s).holds i ≡ false))
    ↔ (((k : ℕ) → k < i → Breaks (context s) (expr s k) → ⊥) × Breaks (context s) (expr s i))
unfolding expression_seal_rule
breaks_first s views i inside = (
  λ h. (λ k lt b. not_both (h.0 k lt) (leaks b), breaks h.0 (views i inside) h.1),
  λ h. (fix lt-wf_rel.wf (λ k on lt. whole h.0 k lt (λ j less. on j less (omega arith)) _ refl), leaks h.1),
)
  where
    whole : ((k : ℕ) → k < i → Breaks (context s) (expr s k) → ⊥) → (k : ℕ) → k < i
        → HoldsBelow (λ k. has_label (label_of (context s) (expr s k))) k → (b : Bool) → has_label (label_of (context s) (expr s k)) ≡ b
        → has_label (label_of (context s) (expr s k)) ≡ true
    whole none k lt below true e = e
    whole none k lt below false e = absurd (none k lt (breaks below (views k (omega arith)) e))
