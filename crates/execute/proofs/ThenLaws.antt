-- The run of one block and then another is the run of the first, and where that is done, the run of the second. Assumes nothing.
use mathlib.Core.Path.{◌≡◌, refl, sym, ap, ◌∙◌}
use mathlib.Core.List.{List, []}
use mathlib.Core.Option.{Option, none, some}
use Prim.Native.Nat.{ℕ, zero, suc}
use Rattle.base.specs.declared.codes.Stop.TheVariants as Stops
use Rattle.value.specs.declared.Value.{Value}
use Rattle.table.specs.Decode.{Context}
use Rattle.table.specs.Syntax as S
use Rattle.table.specs.Syntax.{Block, ◌then◌}
use Rattle.typing.specs.Typing.{Ok, T-END, T-MOVE, T-JMP, T-CPUEXN, T-SPECIAL, T-WHILE, T-IF}
use Rattle.memory.specs.Log.{Log}
use Rattle.evaluation.specs.State.{moved}
use Rattle.evaluation.specs.Evaluation as E
use Rattle.evaluation.proofs.Formed.{FormedBlock, f_end, f_move, f_jmp, f_cpuexn, f_special, f_while, f_if}
use Rattle.base.specs.declared.codes.Stop.{Stop}
use Rattle.running.specs.declared.Ending.TheVariants.{Done, Refused, Stopped}
use Rattle.running.specs.Run.{Left, left, stop, run, Guard, holds, fails, unsure, guard, target}
use Rattle.effect.proofs.StandingLaws.{Good}

then_then : (b c k : Block) → ((b then c) then k) ≡ (b then (c then k))
unfolding ◌then◌
then_then S.end c k = refl
then_then (S.move n x e r) c k = ap (S.move n x e) (then_then r c k)
then_then (S.jmp n e r) c k = ap (S.jmp n e) (then_then r c k)
then_then (S.cpuexn n r) c k = ap (S.cpuexn n) (then_then r c k)
then_then (S.special n r) c k = ap (S.special n) (then_then r c k)
then_then (S.while n e b r) c k = ap (S.while n e b) (then_then r c k)
then_then (S.if n e b d r) c k = ap (S.if n e b d) (then_then r c k)

pub then_end : (b : Block) → (b then S.end) ≡ b
unfolding ◌then◌
then_end S.end = refl
then_end (S.move n x e r) = ap (S.move n x e) (then_end r)
then_end (S.jmp n e r) = ap (S.jmp n e) (then_end r)
then_end (S.cpuexn n r) = ap (S.cpuexn n) (then_end r)
then_end (S.special n r) = ap (S.special n) (then_end r)
then_end (S.while n e b r) = ap (S.while n e b) (then_end r)
then_end (S.if n e b d r) = ap (S.if n e b d) (then_end r)

module _ (Γ : Context) (room : ℕ) where
  -- what a run that left x goes on with
  unfoldable pub onward : Left → Block → Left
  unfolding run
  onward x k = elim x.ending [
    | Done ↦ run Γ room x.remaining k x.state x.log x.next
    | Refused refusal ↦ x
    | Stopped code statement ↦ x
  ]

  -- a statement after its evaluation
  abbrev after : ℕ → ℕ → ℕ → List ℕ → (Value → Log → Left) → E.Evaluated → Left
  after n t a σ f r = elim r [ E.stopped code M ↦ stop code n t σ M a | E.value v M ↦ f v M ]

  step : (n t a : ℕ) (σ : List ℕ) (k : Block) (f g : Value → Log → Left) (r : E.Evaluated) → ((v : Value) (M : Log) → f v M ≡ onward (g v M) k)
      → after n t a σ f r ≡ onward (after n t a σ g r) k
  unfolding onward stop left
  step n t a σ k f g (E.value v M) h = h v M
  step n t a σ k f g (E.stopped code M) h = refl

  -- a guard's ways
  abbrev by : Left → Left → Left → Guard → Left
  by x y z g = elim g [ holds ↦ x | fails ↦ y | unsure ↦ z ]

  step_guard : (k : Block) (x y z x₁ y₁ : Left) (g : Guard) → x ≡ onward x₁ k → y ≡ onward y₁ k → z ≡ onward z k → by x y z g ≡ onward (by x₁ y₁ z g) k
  step_guard k x y z x₁ y₁ holds p q r = p
  step_guard k x y z x₁ y₁ fails p q r = q
  step_guard k x y z x₁ y₁ unsure p q r = r

  -- a jump's ways
  abbrev to : Left → (ℕ → Left) → Option ℕ → Left
  to z f o = elim o [ none ↦ z | some d ↦ f d ]

  step_jump : (k : Block) (z : Left) (f g : ℕ → Left) (o : Option ℕ) → z ≡ onward z k → ((d : ℕ) → f d ≡ onward (g d) k) → to z f o ≡ onward (to z g o) k
  step_jump k z f g none p q = p
  step_jump k z f g (some d) p q = q d

  stop_stays : (code : Stop) (n t : ℕ) (σ : List ℕ) (L : Log) (a : ℕ) (k : Block) → stop code n t σ L a ≡ onward (stop code n t σ L a) k
  unfolding onward stop left
  stop_stays code n t σ L a k = refl

  pub run_then : (t : ℕ) (b k : Block) (σ : List ℕ) (L : Log) (a : ℕ) → run Γ room t (b then k) σ L a ≡ onward (run Γ room t b σ L a) k
  unfolding run ◌then◌ onward left stop
  run_then zero S.end k σ L a = refl
  run_then zero (S.move n x e r) k σ L a = refl
  run_then zero (S.jmp n e r) k σ L a = refl
  run_then zero (S.cpuexn n r) k σ L a = refl
  run_then zero (S.special n r) k σ L a = refl
  run_then zero (S.while n e b r) k σ L a = refl
  run_then zero (S.if n e b c r) k σ L a = refl
  run_then (suc t) S.end k σ L a = refl
  run_then (suc t) (S.move n x e r) k σ L a =
      step n t a σ k (λ v M. run Γ room t (r then k) (moved σ x v) M a) (λ v M. run Γ room t r (moved σ x v) M a) (E.eval Γ room σ e [] L)
      (λ v M. run_then t r k (moved σ x v) M a)
  run_then (suc t) (S.jmp n e r) k σ L a =
      step n t a σ k (λ v M. to (stop Stops.JumpUnknown n t σ M a) (λ d. run Γ room t (r then k) σ M d) (target v))
      (λ v M. to (stop Stops.JumpUnknown n t σ M a) (λ d. run Γ room t r σ M d) (target v)) (E.eval Γ room σ e [] L)
      (λ v M. step_jump k (stop Stops.JumpUnknown n t σ M a) (λ d. run Γ room t (r then k) σ M d) (λ d. run Γ room t r σ M d) (target v) refl (λ d. run_then t r k σ M d))
  run_then (suc t) (S.cpuexn n r) k σ L a = run_then t r k σ L a
  run_then (suc t) (S.special n r) k σ L a = run_then t r k σ L a
  run_then (suc t) (S.while n e b r) k σ L a =
      step n t a σ k
      (λ v M. by (run Γ room t (b then S.while n e b (r then k)) σ M a) (run Γ room t (r then k) σ M a) (stop Stops.GuardUnknown n t σ M a) (guard v))
      (λ v M. by (run Γ room t (b then S.while n e b r) σ M a) (run Γ room t r σ M a) (stop Stops.GuardUnknown n t σ M a) (guard v)) (E.eval Γ room σ e [] L)
      (λ v M. step_guard k _ _ _ _ _ (guard v)
      (ap (λ (b : Block). run Γ room t b σ M a) (sym (then_then b (S.while n e b r) k)) ∙ run_then t (b then S.while n e b r) k σ M a)
      (run_then t r k σ M a) refl)
  run_then (suc t) (S.if n e b c r) k σ L a =
      step n t a σ k
      (λ v M. by (run Γ room t (b then (r then k)) σ M a) (run Γ room t (c then (r then k)) σ M a) (stop Stops.GuardUnknown n t σ M a) (guard v))
      (λ v M. by (run Γ room t (b then r) σ M a) (run Γ room t (c then r) σ M a) (stop Stops.GuardUnknown n t σ M a) (guard v)) (E.eval Γ room σ e [] L)
      (λ v M. step_guard k _ _ _ _ _ (guard v)
      (ap (λ (b : Block). run Γ room t b σ M a) (sym (then_then b r k)) ∙ run_then t (b then r) k σ M a)
      (ap (λ (b : Block). run Γ room t b σ M a) (sym (then_then c r k)) ∙ run_then t (c then r) k σ M a) refl)

-- ------------------------------------------------------------------------------------------------
-- The first of two blocks may be run where both may

ok_first : {Γ : Context} {A : ℕ} (b k : Block) → Ok Γ A (b then k) → Ok Γ A b
unfolding ◌then◌
ok_first S.end k h = T-END
ok_first (S.move n x e r) k (T-MOVE d h) = T-MOVE d (ok_first r k h)
ok_first (S.jmp n e r) k (T-JMP d h) = T-JMP d (ok_first r k h)
ok_first (S.cpuexn n r) k (T-CPUEXN h) = T-CPUEXN (ok_first r k h)
ok_first (S.special n r) k (T-SPECIAL h) = T-SPECIAL (ok_first r k h)
ok_first (S.while n e b r) k (T-WHILE d p h) = T-WHILE d p (ok_first r k h)
ok_first (S.if n e b c r) k (T-IF d p q h) = T-IF d p q (ok_first r k h)

formed_first : {s : List ℕ} (b k : Block) → FormedBlock s (b then k) → FormedBlock s b
unfolding ◌then◌
formed_first S.end k h = f_end
formed_first (S.move n x e r) k (f_move v o d h) = f_move v o d (formed_first r k h)
formed_first (S.jmp n e r) k (f_jmp d h) = f_jmp d (formed_first r k h)
formed_first (S.cpuexn n r) k (f_cpuexn h) = f_cpuexn (formed_first r k h)
formed_first (S.special n r) k (f_special h) = f_special (formed_first r k h)
formed_first (S.while n e b r) k (f_while d p h) = f_while d p (formed_first r k h)
formed_first (S.if n e b c r) k (f_if d p q h) = f_if d p q (formed_first r k h)

pub good_first : {s : List ℕ} (b k : Block) → Good s (b then k) → Good s b
good_first b k g = record { typed = ok_first b k g.typed; formed = formed_first b k g.formed }
