-- The run of a clean block in two worlds, with any number of ticks. Assumes nothing.
use mathlib.Core.Path.{◌≡◌, refl}
use mathlib.Core.Bool.{Bool, false}
use mathlib.Core.List.{List, []}
use mathlib.Core.Option.{Option, none, some}
use Prim.Native.Nat.{ℕ, zero, suc}
use Rattle.base.specs.declared.codes.Stop.{Stop}
use Rattle.value.specs.declared.Value.{Value}
use Rattle.table.specs.Decode.{Context}
use Rattle.table.specs.Syntax.{Block}
use Rattle.sealing.specs.Sealing.{Clean, S-END, S-MOVE, S-JMP, S-CPUEXN, S-SPECIAL, S-WHILE, S-IF}
use Rattle.sealing.proofs.CleanLaws.{clean_then}
use Rattle.memory.specs.Log.{Log}
use Rattle.evaluation.specs.Evaluation.{Evaluated, value, stopped}
use Rattle.running.specs.declared.Ending.{Ending}
use Rattle.running.specs.declared.Ending.TheVariants.{Stopped}
use Rattle.running.specs.Run.{Left, left, stop, Guard, holds, fails, unsure, guard, target, run}
use Rattle.secrecy.proofs.Same.{Same, same_word, same_unknown, same_memory}
use Rattle.secrecy.proofs.Both.{Both, both_value, both_stopped}
use Rattle.secrecy.proofs.Worlds.{World, world_keeps, world_moves}
use Rattle.secrecy.proofs.Evaluations.{eval_agrees}

-- two ends of runs: the same ending, ticks and next address, in worlds
pub record SameLeft (Γ : Context) (n : ℕ) (l m : Left) : Type 0 where
  pub ending : l.ending ≡ m.ending
  pub remaining : l.remaining ≡ m.remaining
  pub next : l.next ≡ m.next
  pub world : World Γ n l.state m.state [] [] l.log m.log

same_guard : {L M : Log} {u v : Value} → Same L M u v → guard u ≡ guard v
unfolding guard
same_guard same_word = refl
same_guard same_unknown = refl
same_guard (same_memory p q c) = refl

same_target : {L M : Log} {u v : Value} → Same L M u v → target u ≡ target v
unfolding target
same_target same_word = refl
same_target same_unknown = refl
same_target (same_memory p q c) = refl

-- ------------------------------------------------------------------------------------------------
-- One step, then another

module _ {Γ : Context} {n : ℕ} where
  same_left : {σ τ : List ℕ} {L M : Log} (ending : Ending) (t a : ℕ) → World Γ n σ τ [] [] L M
      → SameLeft Γ n (left ending t σ L a) (left ending t τ M a)
  unfolding left
  same_left ending t a W = record { ending = refl; remaining = refl; next = refl; world = W }

  same_stop : {σ τ : List ℕ} {L M : Log} (code : Stop) (s t a : ℕ) → World Γ n σ τ [] [] L M → SameLeft Γ n (stop code s t σ L a) (stop code s t τ M a)
  unfolding stop
  same_stop code s = same_left (Stopped code s)

  after : {l : Bool} {σ τ : List ℕ} {L M : Log} {r q : Evaluated} (s t a : ℕ) (f g : Value → Log → Left) → World Γ n σ τ [] [] L M → Both l L M r q
      → ((u v : Value) (L M : Log) → World Γ n σ τ [] [] L M → (l ≡ false → Same L M u v) → SameLeft Γ n (f u L) (g v M))
      → SameLeft Γ n (elim r [ stopped code K ↦ stop code s t σ K a | value u K ↦ f u K ])
      (elim q [ stopped code K ↦ stop code s t τ K a | value u K ↦ g u K ])
  after s t a f g W (both_value o h) on = on _ _ _ _ (world_keeps o W) h
  after s t a f g W (both_stopped {code = code} o) on = same_stop code s t a (world_keeps o W)

  at_guard : {x x' y y' z z' : Left} (g : Guard) → SameLeft Γ n x x' → SameLeft Γ n y y' → SameLeft Γ n z z'
      → SameLeft Γ n (elim g [ holds ↦ x | fails ↦ y | unsure ↦ z ]) (elim g [ holds ↦ x' | fails ↦ y' | unsure ↦ z' ])
  at_guard holds p q r = p
  at_guard fails p q r = q
  at_guard unsure p q r = r

  at_target : {z z' : Left} (o : Option ℕ) (f g : ℕ → Left) → SameLeft Γ n z z' → ((d : ℕ) → SameLeft Γ n (f d) (g d))
      → SameLeft Γ n (elim o [ none ↦ z | some d ↦ f d ]) (elim o [ none ↦ z' | some d ↦ g d ])
  at_target none f g p h = p
  at_target (some d) f g p h = h d

-- ------------------------------------------------------------------------------------------------
-- The run

module _ {Γ : Context} (n room : ℕ) where
  pub run_agrees : (t : ℕ) {k : Block} → Clean Γ k → {σ τ : List ℕ} {L M : Log} (a : ℕ) → World Γ n σ τ [] [] L M
      → SameLeft Γ n (run Γ room t k σ L a) (run Γ room t k τ M a)
  unfolding run
  run_agrees zero S-END a W = same_left _ _ _ W
  run_agrees zero (S-MOVE s h k) a W = same_stop _ _ _ _ W
  run_agrees zero (S-JMP s k) a W = same_stop _ _ _ _ W
  run_agrees zero (S-CPUEXN k) a W = same_stop _ _ _ _ W
  run_agrees zero (S-SPECIAL k) a W = same_stop _ _ _ _ W
  run_agrees zero (S-WHILE s b k) a W = same_stop _ _ _ _ W
  run_agrees zero (S-IF s b c k) a W = same_stop _ _ _ _ W
  run_agrees (suc t) S-END a W = same_left _ _ _ W
  run_agrees (suc t) (S-MOVE {n = s} {x = x} e opens k) a W =
      after s t a _ _ W (eval_agrees n room e W) λ u v L M W same. run_agrees t k a (world_moves x W (λ o. same (opens o)))
  run_agrees (suc t) (S-JMP {n = s} e k) a W =
      after s t a _ _ W (eval_agrees n room e W) λ u v L M W same.
      rw (same_target (same refl)) (at_target (target v) _ _ (same_stop _ _ _ _ W) (λ d. run_agrees t k d W))
  run_agrees (suc t) (S-CPUEXN k) a W = run_agrees t k a W
  run_agrees (suc t) (S-SPECIAL k) a W = run_agrees t k a W
  run_agrees (suc t) (S-WHILE {n = s} e b k) a W =
      after s t a _ _ W (eval_agrees n room e W) λ u v L M W same.
      rw (same_guard (same refl))
      (at_guard (guard v) (run_agrees t (clean_then b (S-WHILE e b k)) a W) (run_agrees t k a W) (same_stop _ _ _ _ W))
  run_agrees (suc t) (S-IF {n = s} e b c k) a W =
      after s t a _ _ W (eval_agrees n room e W) λ u v L M W same.
      rw (same_guard (same refl))
      (at_guard (guard v) (run_agrees t (clean_then b k) a W) (run_agrees t (clean_then c k) a W) (same_stop _ _ _ _ W))
