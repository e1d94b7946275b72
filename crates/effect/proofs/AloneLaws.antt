-- What a run makes of a statement without a body, alone. Assumes nothing.
use mathlib.Core.Path.{◌≡◌, refl, ap, ◌∙◌}
use mathlib.Core.List.{List, []}
use mathlib.Core.Option.{Option, none, some}
use Prim.Native.Nat.{ℕ, zero, suc, ◌+◌, ◌<◌}
use Rattle.base.specs.declared.codes.Stop.{Stop}
use Rattle.base.specs.declared.codes.Stop.TheVariants as Stops
use Rattle.value.specs.declared.Value.{Value}
use Rattle.table.specs.Bytes.{header, statement}
use Rattle.table.specs.Decode.{Context, context, expr, block_at}
use Rattle.table.specs.Syntax as S
use Rattle.table.specs.Syntax.{Block}
use Rattle.table.proofs.BlockLaws.{block_none, block_move, block_jmp, block_cpuexn, block_special}
use Rattle.memory.specs.Log.{Log}
use Rattle.evaluation.specs.State.{moved}
use Rattle.evaluation.specs.Evaluation as E
use Rattle.running.specs.declared.Ending.TheVariants.{Done}
use Rattle.running.specs.Run.{Left, left, stop, run, target}

pub run_end : (Γ : Context) (room t : ℕ) (σ : List ℕ) (L : Log) (a : ℕ) → run Γ room t S.end σ L a ≡ left Done t σ L a
unfolding run
run_end Γ room zero σ L a = refl
run_end Γ room (suc t) σ L a = refl

module _ (s : List ℕ) (i : ℕ) (inside : i < (header s).statements) (room : ℕ) (σ : List ℕ) (L : Log) (t a : ℕ) where
  abbrev runs : Block → Left
  runs b = run (context s) room (suc t) b σ L a

  -- what stands behind it
  nothing : (f : Block → Block) → runs (f (block_at s (suc i + 0) 0)) ≡ runs (f S.end)
  nothing f = ap (λ (b : Block). runs (f b)) (block_none s (suc i + 0))

  abbrev alone : Left
  alone = runs (block_at s i 1)

  abbrev moving : E.Evaluated → Left
  moving r = elim r [
    | E.stopped code M ↦ stop code i t σ M a
    | E.value v M ↦ run (context s) room t S.end (moved σ (statement s i).a v) M a
  ]

  is_move : (statement s i).op ≡ 1 → alone ≡ moving (E.eval (context s) room σ (expr s (statement s i).b) [] L)
  unfolding run
  is_move op = ap runs (block_move s i 0 inside op) ∙ nothing (S.move i (statement s i).a (expr s (statement s i).b))

  pub move_value : {v : Value} {M : Log} → (statement s i).op ≡ 1 → E.eval (context s) room σ (expr s (statement s i).b) [] L ≡ E.value v M
      → alone ≡ left Done t (moved σ (statement s i).a v) M a
  move_value {v} {M} op p = is_move op ∙ ap moving p ∙ run_end (context s) room t (moved σ (statement s i).a v) M a

  pub move_stops : {code : Stop} {M : Log} → (statement s i).op ≡ 1 → E.eval (context s) room σ (expr s (statement s i).b) [] L ≡ E.stopped code M
      → alone ≡ stop code i t σ M a
  move_stops op p = is_move op ∙ ap moving p

  -- where a jump goes, with what is run then
  abbrev onward : (ℕ → Left) → Log → Option ℕ → Left
  onward f M o = elim o [ none ↦ stop Stops.JumpUnknown i t σ M a | some d ↦ f d ]

  abbrev jumping : E.Evaluated → Left
  jumping r = elim r [ E.stopped code M ↦ stop code i t σ M a | E.value v M ↦ onward (λ d. run (context s) room t S.end σ M d) M (target v) ]

  is_jmp : (statement s i).op ≡ 2 → alone ≡ jumping (E.eval (context s) room σ (expr s (statement s i).a) [] L)
  unfolding run
  is_jmp op = ap runs (block_jmp s i 0 inside op) ∙ nothing (S.jmp i (expr s (statement s i).a))

  pub jmp_value : {v : Value} {M : Log} → (statement s i).op ≡ 2 → E.eval (context s) room σ (expr s (statement s i).a) [] L ≡ E.value v M
      → alone ≡ onward (λ d. left Done t σ M d) M (target v)
  jmp_value {v} {M} op p = is_jmp op ∙ ap jumping p ∙ go (target v)
    where
      go : (o : Option ℕ) → onward (λ d. run (context s) room t S.end σ M d) M o ≡ onward (λ d. left Done t σ M d) M o
      go none = refl
      go (some d) = run_end (context s) room t σ M d

  pub jmp_stops : {code : Stop} {M : Log} → (statement s i).op ≡ 2 → E.eval (context s) room σ (expr s (statement s i).a) [] L ≡ E.stopped code M
      → alone ≡ stop code i t σ M a
  jmp_stops op p = is_jmp op ∙ ap jumping p

  pub cpuexn_alone : (statement s i).op ≡ 3 → alone ≡ left Done t σ L a
  unfolding run
  cpuexn_alone op = ap runs (block_cpuexn s i 0 inside op) ∙ nothing (S.cpuexn i) ∙ run_end (context s) room t σ L a

  pub special_alone : (statement s i).op ≡ 4 → alone ≡ left Done t σ L a
  unfolding run
  special_alone op = ap runs (block_special s i 0 inside op) ∙ nothing (S.special i) ∙ run_end (context s) room t σ L a
