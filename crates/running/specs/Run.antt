-- Running a block with ticks. The names in capitals are rules of 002. Its public copy has lost the rules of sequences, which paper 01 completes, and
-- WHILE_FALSE and IFTHEN_FALSE, which are named as their neighbours are. Paper 01 narrows all of them by the ticks. Assumes nothing.
use Rattle.std.specs.Prelude.{true, false, eqb}
use mathlib.Core.List.{List, []}
use Rattle.std.proofs.Math.Option.{Option, none, some}
use Prim.Native.Nat.{ℕ, zero, suc}
use Rattle.base.specs.declared.codes.Stop.{Stop}
use Rattle.base.specs.declared.codes.Stop.TheVariants as Stops
use Rattle.value.specs.declared.Value.{Value}
use Rattle.value.specs.declared.Value.TheVariants.{Word, Unknown, Memory}
use Rattle.table.specs.Decode.{Context}
use Rattle.table.specs.Syntax as S
use Rattle.table.specs.Syntax.{Block, ◌then◌}
use Rattle.memory.specs.Log.{Log}
use Rattle.evaluation.specs.State.{moved}
use Rattle.evaluation.specs.Evaluation.{value, stopped, eval}
use Rattle.running.specs.declared.Ending.{Ending}
use Rattle.running.specs.declared.Ending.TheVariants.{Done, Stopped}

-- how a run ended, the ticks that are left, and what it leaves
pub record Left : Type 0 where
  pub ending : Ending
  pub remaining : ℕ
  pub state : List ℕ
  pub log : Log
  pub next : ℕ

unfoldable pub left : Ending → ℕ → List ℕ → Log → ℕ → Left
left ending t σ L a = record { ending = ending; remaining = t; state = σ; log = L; next = a }

-- a stop with a code at a statement
unfoldable pub stop : Stop → ℕ → ℕ → List ℕ → Log → ℕ → Left
unfolding left
stop code n = left (Stopped code n)

-- a guard's value: true, false, or unknown (completed: 002 has no rule for an unknown guard or jump)
pub data Guard : Type 0 where
  holds fails unsure : Guard

unfoldable pub guard : Value → Guard
guard (Word w v) = elim (eqb v 1) [ true ↦ holds | false ↦ fails ]
guard (Unknown t) = unsure
guard (Memory w head) = unsure

-- where a jump goes, if it is known
unfoldable pub target : Value → Option ℕ
target (Word w v) = some v
target (Unknown t) = none
target (Memory w head) = none

-- "At a stop the innermost statement is named, its move isn't done, entries it appended stay, and its tick counts, save at 35."
-- "A tick is charged when a statement is begun; a while counts as begun at each test of its guard, the first included, and only
-- then. A while's body is followed by the while again." A stop in an evaluation has its own code; 32 "guard unknown", 33 "jump
-- unknown", 35 "tick needed, none left".
module _ (Γ : Context) (room : ℕ) where
  unfoldable pub run : ℕ → Block → List ℕ → Log → ℕ → Left
  unfolding left stop guard target eval moved ◌then◌
  run zero S.end σ L a = left Done 0 σ L a
  run zero (S.move n x e k) σ L a = stop Stops.NoTick n 0 σ L a
  run zero (S.jmp n e k) σ L a = stop Stops.NoTick n 0 σ L a
  run zero (S.cpuexn n k) σ L a = stop Stops.NoTick n 0 σ L a
  run zero (S.special n k) σ L a = stop Stops.NoTick n 0 σ L a
  run zero (S.while n e b k) σ L a = stop Stops.NoTick n 0 σ L a
  run zero (S.if n e b c k) σ L a = stop Stops.NoTick n 0 σ L a
  run (suc t) S.end σ L a = left Done (suc t) σ L a
  -- MOVE
  run (suc t) (S.move n x e k) σ L a =
      elim (eval Γ room σ e [] L) [ stopped code M ↦ stop code n t σ M a | value v M ↦ run t k (moved σ x v) M a ]
  -- JMP: "A jmp sets the next address and the rest of the block still runs."
  run (suc t) (S.jmp n e k) σ L a =
      elim (eval Γ room σ e [] L) [
        | stopped code M ↦ stop code n t σ M a
        | value v M ↦ elim (target v) [ none ↦ stop Stops.JumpUnknown n t σ M a | some d ↦ run t k σ M d ]
      ]
  -- CPUEXN, SPECIAL: "Cpuexn and special change nothing."
  run (suc t) (S.cpuexn n k) σ L a = run t k σ L a
  run (suc t) (S.special n k) σ L a = run t k σ L a
  -- WHILE, WHILE_FALSE
  run (suc t) (S.while n e b k) σ L a =
      elim (eval Γ room σ e [] L) [
        | stopped code M ↦ stop code n t σ M a
        | value v M ↦ elim (guard v) [
          | holds ↦ run t (b then S.while n e b k) σ M a
          | fails ↦ run t k σ M a
          | unsure ↦ stop Stops.GuardUnknown n t σ M a
        ]
      ]
  -- IF_TRUE, IF_FALSE, IFTHEN_TRUE, IFTHEN_FALSE
  run (suc t) (S.if n e b c k) σ L a =
      elim (eval Γ room σ e [] L) [
        | stopped code M ↦ stop code n t σ M a
        | value v M ↦ elim (guard v) [ holds ↦ run t (b then k) σ M a | fails ↦ run t (c then k) σ M a | unsure ↦ stop Stops.GuardUnknown n t σ M a ]
      ]
