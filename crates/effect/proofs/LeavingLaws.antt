-- What a run leaves, by the evaluation of its statement's expression. Assumes nothing.
use mathlib.Core.Path.{◌≡◌, refl, sym, ap, subst, ◌∙◌}
use mathlib.Core.Bool.{Bool, true, false}
use mathlib.Core.List.{List}
use Prim.Native.Nat.{ℕ, ◌<◌}
use native.Mathlib.Omega.{arith}
use lib.Dec.{eqb}
use Rattle.std.specs.Prelude.{Result, Ok, Err, ⊤}
use Rattle.std.specs.Result.{IsErr, IsErrAnd}
use Rattle.std.proofs.lemmas.Result.{err_from_is_err_and}
use Rattle.base.specs.declared.codes.Stop.{Stop}
use Rattle.base.specs.declared.codes.Stop.TheVariants as Stops
use Rattle.base.proofs.BoolLaws.{impossible}
use Rattle.value.specs.declared.ValueType.{ValueType}
use Rattle.value.specs.declared.Value.{Value}
use Rattle.value.specs.declared.Value.TheVariants.{Word, Unknown, Memory}
use Rattle.table.specs.Bytes.{header}
use Rattle.table.specs.Decode.{context, expr}
use Rattle.table.proofs.ExpressionLaws.{expr_view}
use Rattle.memory.specs.declared.LogBuffer.{LogBuffer}
use Rattle.memory.specs.Buffer.{held, room_of, Becomes}
use Rattle.memory.proofs.LogLaws.{stay, length-entries}
use Rattle.logs.proofs.AppendLaws.{becomes_same}
use Rattle.evaluation.specs.Evaluation as E
use Rattle.evaluation.specs.Evaluation.{Binding}
use Rattle.evaluation.proofs.Formed.{formed}
use Rattle.bindings.specs.Bound as Bound
use Rattle.bindings.proofs.BoundLaws.{bindings_none, whole_none}
use Rattle.operation.specs.Outcome.{Leaves, answer, log_in}
use Rattle.running.specs.declared.Ending.{Ending}
use Rattle.running.specs.Run.{Left, left, Guard, guard, holds, fails, unsure}
use Rattle.running.proofs.PairLaws.{declared, state_fits}
use Rattle.evaluate.specs.Ready.{Ready}
use Rattle.running.proofs.EvaluationKeeps.{eval_keeps}
use Rattle.evaluate.proofs.WentLaws.{Went, Known, known, known_stop, known_of}
use Rattle.evaluate.proofs.ArmLaws.{Call}
use Rattle.effect.specs.declared.Halt.{Halt}
use Rattle.effect.specs.declared.Machine.{Machine}
use Rattle.effect.specs.Leaving as Leaving
use Rattle.effect.specs.Leaving.{Running, RunLeaves, LogAlone, at_statement, ValueLeaves, test_of, tested, TestLeaves, evaluated}

-- ------------------------------------------------------------------------------------------------
-- Evaluation from where a run stands

module _ {s : List ℕ} {m : Machine} (here : Running s m) where
  pub ready : Ready s m.state.now m.log.now Bound.none
  ready =
      let most = here.stands.log.most in
      let same = length-entries m.log.now.numbers.now m.log.now.count in
      record {
        framed = here.framed;
        records = here.records;
        typing = here.typing;
        state = here.stands.state.size;
        whole = whole_none;
        room = omega arith;
        fits =
            rw bindings_none
            (state_fits s (λ x h. declared _ (here.records.variables x h)) here.stands.state here.stands.log);
      }

  -- nothing happened
  pub stays : Went m.log.now m.log.now
  stays = record {
    on = stay;
    log = here.stands.log;
    becomes = becomes_same m.log.now ready.room;
    same = refl;
    room = ready.room;
  }

  abbrev evaluation : ℕ → E.Evaluated
  evaluation e = evaluated s m.state.now m.log.now e

  -- what is known of an evaluation without bindings, by what it leaves
  known_here : (e : ℕ) → e < (header s).expressions → {p : LogBuffer} → Becomes m.log.now (log_in (evaluation e)) p
      → (t : ValueType) × Known m.log.now t (evaluation e) p (answer (evaluation e))
  known_here e inside {p} left =
      let (t, d) = here.typing.expressions e inside in
      let gives =
      eval_keeps (context s) (header s).variables (room_of m.log.now) m.state.now d (formed s (expr_view here.records) e inside)
      (state_fits s (λ x h. declared _ (here.records.variables x h)) here.stands.state here.stands.log) in
      (t, known_of gives (record { is = refl; log = left }))

  module _ (e : ℕ) (inside : e < (header s).expressions) {i : ℕ} {q : Machine} where
    pub gave : {v : Value} → ValueLeaves m (evaluation e) i (Ok v) q → Went m.log.now q.log.now × (evaluation e ≡ E.value v (held q.log.now))
    gave {v} left = let (t, k) = known_here e inside left.rest.log in go k left.is
      where
        go : {t : ValueType} {r : Result Value Stop} → Known m.log.now t (evaluation e) q.log.now r → Ok v ≡ at_statement i r
            → Went m.log.now q.log.now × (evaluation e ≡ E.value v (held q.log.now))
        go (known {v = u} w is h) p = let same : u ≡ v = cc in (w, is ∙ ap (λ (v : Value). E.value v (held q.log.now)) same)
        go (known_stop w is) p = impossible (cc)

    pub stopped : {h : Halt} → ValueLeaves m (evaluation e) i (Err h) q
        → Went m.log.now q.log.now × ((evaluation e ≡ E.stopped h.code (held q.log.now)) × (h ≡ record { code = h.code; statement = i }))
    stopped {h} left = let (t, k) = known_here e inside left.rest.log in go k left.is
      where
        go : {t : ValueType} {r : Result Value Stop} → Known m.log.now t (evaluation e) q.log.now r → Err h ≡ at_statement i r
            → Went m.log.now q.log.now × ((evaluation e ≡ E.stopped h.code (held q.log.now)) × (h ≡ record { code = h.code; statement = i }))
        go (known w is g) p = impossible (cc)
        go (known_stop {code = c} w is) p =
            let same : h ≡ record { code = c; statement = i } = cc in
            let code : c ≡ h.code = sym (ap (λ (h : Halt). h.code) same) in
            (w, (is ∙ ap (λ (c : Stop). E.stopped c (held q.log.now)) code, same ∙ ap (λ (c : Stop). record { code = c; statement = i }) code))

-- ------------------------------------------------------------------------------------------------
-- What is left

-- a run that ends in what the machine has
pub leaves_left : {m q : Machine} {x : Left} {r : Result ⊤ Halt} (ending : Ending) → Went m.log.now q.log.now
    → x ≡ left ending q.ticks q.state.now (held q.log.now) q.next → Leaving.ended r ≡ ending → q.state.ghost_name ≡ m.state.ghost_name
    → q.log.ghost_name ≡ m.log.ghost_name → RunLeaves m x r q
unfolding left
leaves_left {m} {q} {x} {r} ending w e is same same_log =
    let here : RunLeaves m (left ending q.ticks q.state.now (held q.log.now) q.next) r q =
    record { is = is; ticks = refl; next = refl; state = refl; log = w.becomes; same = same; same_log = same_log } in
    subst (λ (x : Left). RunLeaves m x r q) (sym e) here

-- ------------------------------------------------------------------------------------------------
-- Guards

-- a word that is 1, or isn't
pub test_word : (w n : ℕ) → Ok (eqb n 1) ≡ test_of (Word w n)
unfolding test_of guard
test_word w n = go (eqb n 1)
  where
    go : (b : Bool) → Ok b ≡ (let g : Guard = elim b [ true ↦ holds | false ↦ fails ] in elim g as (λ g. Result Bool Stop) [ holds ↦ Ok true | fails ↦ Ok false | unsure ↦ Err Stops.GuardUnknown ])
    go true = refl
    go false = refl

pub test_other : (v : Value) → ((w n : ℕ) → v ≡ Word w n → ⊥) → Err Stops.GuardUnknown ≡ test_of v
unfolding test_of guard
test_other (Word w n) never = absurd (never w n refl)
test_other (Unknown t) never = refl
test_other (Memory w head) never = refl

-- each value, whatever the arm that meets it is called
pub test_of_word : (w n : ℕ) → test_of (Word w n) ≡ Ok (eqb n 1)
test_of_word w n = sym (test_word w n)

pub test_of_unknown : (t : ValueType) → test_of (Unknown t) ≡ Err Stops.GuardUnknown
test_of_unknown t = sym (test_other (Unknown t) (λ w n e. impossible (cc)))

pub test_of_memory : (w head : ℕ) → test_of (Memory w head) ≡ Err Stops.GuardUnknown
test_of_memory w head = sym (test_other (Memory w head) (λ v n e. impossible (cc)))

pub ruleset guards = (test_of_word, test_of_unknown, test_of_memory)

-- the test by an evaluation's answer
abbrev by : Result Value Stop → Result Bool Stop
by (Ok v) = test_of v
by (Err code) = Err code

by_answer : (x : E.Evaluated) → by (answer x) ≡ tested x
unfolding tested
by_answer (E.value v L) = refl
by_answer (E.stopped code L) = refl

pub tested_is : (x : E.Evaluated) → tested x ≡ by (answer x)
tested_is x = sym (by_answer x)

pub ruleset tests = (tested_is, bindings_none)

-- by what the evaluation gave
module _ (s σ : List ℕ) {l m : LogBuffer} (e : ℕ) where
  pub plain : {r : Result Value Stop} → Call s σ l Bound.none e r m → Leaves l (evaluated s σ l e) r m
  plain {r} left = subst (λ (ρ : List Binding). Leaves l (E.eval (context s) (room_of l) σ (expr s e) ρ (held l)) r m) bindings_none left

  pub test_leaves : {r : Result Value Stop} {t : Result Bool Stop} → Call s σ l Bound.none e r m → t ≡ by r → TestLeaves l (evaluated s σ l e) t m
  test_leaves left is =
      let here = plain left in
      record { is = is ∙ ap by here.is ∙ by_answer (evaluated s σ l e); log = here.log }

-- the value of a statement's expression, from the machine's own state and log
pub value_leaves : (s : List ℕ) {m q : Machine} (e : ℕ) {i : ℕ} {r : Result Value Stop} {y : Result Value Halt}
    → Call s m.state.now m.log.now Bound.none e r q.log.now → y ≡ at_statement i r
    → q.state.now ≡ m.state.now → q.ticks ≡ m.ticks → q.next ≡ m.next → q.state.ghost_name ≡ m.state.ghost_name
    → q.log.ghost_name ≡ m.log.ghost_name → ValueLeaves m (evaluated s m.state.now m.log.now e) i y q
value_leaves s {m} e {i} given is state ticks next same same_log =
    let here = plain s m.state.now e given in
    record { is = is ∙ ap (at_statement i) here.is; rest = record { log = here.log; state = state; ticks = ticks; next = next; same = same; same_log = same_log } }

-- ------------------------------------------------------------------------------------------------
-- The error of a call is handed on

pub handed : {T : Type 0} {E : Type 0} (P : Result T E → Type 0) {e : E} {r : Result T E} → IsErr r × IsErrAnd r (λ y. y ≡ e) → P (Err e) → P r
handed {T} {E} P {r = r} h p = let k = err_from_is_err_and r h.1 in subst P (sym (k.1 ∙ ap (λ (e : E). Err e) k.2)) p
