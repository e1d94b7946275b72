-- A guard that was tested: what the run of its statement goes on with. Assumes nothing.
use mathlib.Core.Path.{◌≡◌, refl, sym, subst}
use mathlib.Core.Bool.{Bool, true, false}
use mathlib.Core.List.{List}
use Prim.Native.Nat.{ℕ, ◌<◌}
use Rattle.std.specs.Prelude.{Result, Ok, Err}
use Rattle.base.specs.declared.codes.Stop.{Stop}
use Rattle.base.specs.declared.codes.Stop.TheVariants as Stops
use Rattle.table.specs.Bytes.{header}
use Rattle.table.specs.Decode.{context}
use Rattle.table.proofs.ExpressionLaws.{expr_view}
use Rattle.memory.specs.Log.{Log}
use Rattle.memory.specs.Buffer.{held, room_of}
use Rattle.memory.proofs.LogLaws.{◌⊑◌}
use Rattle.memory.specs.Room.{InRoom}
use Rattle.logs.proofs.AfterLaws.{becomes_held}
use Rattle.value.specs.declared.ValueType.{ValueType}
use Rattle.evaluation.specs.Evaluation as E
use Rattle.evaluation.proofs.EvaluationLaws.{Gives, gives, stops}
use Rattle.evaluation.proofs.Formed.{formed}
use Rattle.operation.specs.Outcome.{log_in}
use Rattle.running.specs.Run.{Left, stop, Guard, holds, fails, unsure, guard}
use Rattle.running.proofs.EvaluationKeeps.{eval_keeps}
use Rattle.running.proofs.PairLaws.{declared, state_fits}
use Rattle.evaluate.proofs.WentLaws.{Went, went}
use Rattle.effect.specs.declared.Halt.{Halt}
use Rattle.effect.specs.declared.Machine.{Machine}
use Rattle.effect.specs.Leaving.{Running, at_statement, test_of, tested, evaluated}
use Rattle.execute.specs.Begun.{GuardLeaves}

-- ------------------------------------------------------------------------------------------------
-- By the answer

-- what a statement with a guard comes to: x or y by the guard's value, in the log then
abbrev pub guarded : ℕ → ℕ → ℕ → List ℕ → (Log → Left) → (Log → Left) → E.Evaluated → Left
guarded n t a σ x y r = elim r [
  | E.stopped code M ↦ stop code n t σ M a
  | E.value v M ↦ elim (guard v) [ holds ↦ x M | fails ↦ y M | unsure ↦ stop Stops.GuardUnknown n t σ M a ]
]

module _ (n t a : ℕ) (σ : List ℕ) (x y : Log → Left) where
  -- what an answer means
  abbrev Means : Log → Left → Result Bool Stop → Type 0
  Means M w (Ok true) = w ≡ x M
  Means M w (Ok false) = w ≡ y M
  Means M w (Err code) = w ≡ stop code n t σ M a

  means : (r : E.Evaluated) → Means (log_in r) (guarded n t a σ x y r) (tested r)
  unfolding tested test_of
  means (E.stopped code M) = refl
  means (E.value v M) = go (guard v)
    where
      go : (g : Guard)
          → Means M (elim g [ holds ↦ x M | fails ↦ y M | unsure ↦ stop Stops.GuardUnknown n t σ M a ])
          (elim g as (λ g. Result Bool Stop) [ holds ↦ Ok true | fails ↦ Ok false | unsure ↦ Err Stops.GuardUnknown ])
      go holds = refl
      go fails = refl
      go unsure = refl

  -- the same, with a stop at the statement
  abbrev MeansAt : Log → Left → Result Bool Halt → Type 0
  MeansAt M w (Ok true) = w ≡ x M
  MeansAt M w (Ok false) = w ≡ y M
  MeansAt M w (Err h) = (w ≡ stop h.code n t σ M a) × (h.statement ≡ n)

  means_at : (M : Log) (w : Left) (r : Result Bool Stop) → Means M w r → MeansAt M w (at_statement n r)
  means_at M w (Ok true) h = h
  means_at M w (Ok false) h = h
  means_at M w (Err code) h = (h, refl)

-- ------------------------------------------------------------------------------------------------
-- From where a run stands

on : {room : ℕ} {L : Log} {t : ValueType} {r : E.Evaluated} → Gives room L t r → (L ⊑ log_in r) × InRoom room (log_in r)
on (gives p k h) = (p, k)
on (stops p k c) = (p, k)

module _ {s : List ℕ} {m : Machine} (here : Running s m) (e : ℕ) (inside : e < (header s).expressions) where
  abbrev evaluation : E.Evaluated
  evaluation = evaluated s m.state.now m.log.now e

  -- what a statement with this guard comes to
  abbrev comes_to : ℕ → ℕ → ℕ → (Log → Left) → (Log → Left) → Left
  comes_to i t a x y = guarded i t a m.state.now x y evaluation

  module _ {i : ℕ} {q : Machine} where
    pub test_went : {r : Result Bool Halt} → GuardLeaves m evaluation i r q → Went m.log.now q.log.now
    test_went leaves =
        let (t, d) = here.typing.expressions e inside in
        let (p, k) =
        on (eval_keeps (context s) (header s).variables (room_of m.log.now) m.state.now d (formed s (expr_view here.records) e inside)
        (state_fits s (λ x h. declared _ (here.records.variables x h)) here.stands.state here.stands.log)) in
        went p k leaves.rest.log

    module _ (t a : ℕ) (x y : Log → Left) where
      test_means : {r : Result Bool Halt} → GuardLeaves m evaluation i r q → MeansAt i t a m.state.now x y (held q.log.now) (comes_to i t a x y) r
      test_means {r} leaves =
          subst (λ (M : Log). MeansAt i t a m.state.now x y M (comes_to i t a x y) r) (sym (becomes_held leaves.rest.log))
          (subst (MeansAt i t a m.state.now x y (log_in evaluation) (comes_to i t a x y)) (sym leaves.is)
          (means_at i t a m.state.now x y (log_in evaluation) (comes_to i t a x y) (tested evaluation) (means i t a m.state.now x y evaluation)))

      -- the three answers
      pub test_holds : {b : Bool} → GuardLeaves m evaluation i (Ok b) q → b ≡ true → comes_to i t a x y ≡ x (held q.log.now)
      test_holds leaves h = test_means (subst (λ (b : Bool). GuardLeaves m evaluation i (Ok b) q) h leaves)

      pub test_fails : {b : Bool} → GuardLeaves m evaluation i (Ok b) q → b ≡ false → comes_to i t a x y ≡ y (held q.log.now)
      test_fails leaves h = test_means (subst (λ (b : Bool). GuardLeaves m evaluation i (Ok b) q) h leaves)

      pub test_stops : {h : Halt} → GuardLeaves m evaluation i (Err h) q
          → (comes_to i t a x y ≡ stop h.code i t m.state.now (held q.log.now) a) × (h.statement ≡ i)
      test_stops leaves = test_means leaves
