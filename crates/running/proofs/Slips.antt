-- The easy slips that paper 01 names about runs: examples that they would break. Assumes nothing.
use mathlib.Core.Path.{◌≡◌, refl}
use mathlib.Core.List.{List, [], ◌∷◌}
use Prim.Native.Nat.{ℕ}
use Rattle.base.specs.declared.codes.Stop.TheVariants as Stops
use Rattle.value.specs.declared.ValueType.TheVariants.{Imm}
use Rattle.table.specs.Decode.{Context}
use Rattle.table.specs.Syntax as S
use Rattle.memory.specs.Log.{Log}
use Rattle.running.specs.declared.Ending.TheVariants.{Done, Stopped}
use Rattle.running.specs.Run.{run, left}

module _ (Γ : Context) (room : ℕ) (L : Log) (a : ℕ) where
  -- "Ending the block at a jmp."
  pub jmp_goes_on : run Γ room 2 (S.jmp 0 (S.word 8 0x20) (S.move 1 0 (S.word 8 5) S.end)) (0 ∷ 0 ∷ []) L a ≡ left Done 0 (1 ∷ 5 ∷ []) L 0x20
  unfolding run left
  jmp_goes_on = refl

  -- "Taking an unknown guard for false."
  pub unknown_while_stops : (σ : List ℕ) → run Γ room 2 (S.while 0 (S.unknown (Imm 1)) (S.cpuexn 1 S.end) S.end) σ L a ≡ left (Stopped Stops.GuardUnknown 0) 1 σ L a
  unfolding run left
  unknown_while_stops σ = refl

  pub unknown_if_stops : (σ : List ℕ) → run Γ room 2 (S.if 0 (S.unknown (Imm 1)) (S.cpuexn 1 S.end) S.end S.end) σ L a ≡ left (Stopped Stops.GuardUnknown 0) 1 σ L a
  unfolding run left
  unknown_if_stops σ = refl
