-- A buffer after an evaluation: the log in it went on, and another evaluation may start from it. Assumes nothing.
use mathlib.Core.Path.{◌≡◌, refl, sym, ap, subst, ◌∙◌}
use Prim.Native.Nat.{ℕ, ◌*◌, ◌/◌, ◌≤◌}
use native.Mathlib.Omega.{arith}
use lib.ListN.{length}
use Rattle.std.specs.Prelude.{Result, Ok, Err}
use Rattle.base.specs.declared.codes.Stop.{Stop}
use Rattle.value.specs.declared.ValueType.{ValueType}
use Rattle.value.specs.declared.Value.{Value}
use Rattle.memory.specs.declared.LogBuffer.{LogBuffer}
use Rattle.memory.specs.Log.{Log, entry_size, holding}
use Rattle.memory.specs.Buffer.{held, room_of, Becomes}
use Rattle.memory.specs.Typed.{Has}
use Rattle.memory.proofs.LogLaws.{◌⊑◌, ⊑_trans, ⊑_length, length-holding}
use Rattle.memory.specs.Room.{InRoom}
use Rattle.memory.proofs.LogRules.{entries_rules}
use Rattle.evaluation.specs.Evaluation as E
use Rattle.evaluation.proofs.EvaluationLaws.{Gives, gives, stops}
use Rattle.logs.specs.Held.{Holds}
use Rattle.logs.proofs.AfterLaws.{becomes_held}
use Rattle.logs.proofs.HoldingLaws.{holding_again}
use Rattle.operation.specs.Outcome.{Leaves, answer, log_in}

-- buffer m came of buffer l: entries were appended, by the log's rules and within its room, and the rest is as it was
pub record Went (l m : LogBuffer) : Type 0 where
  pub on : held l ⊑ held m
  pub log : InRoom (room_of l) (held m)
  pub becomes : Becomes l (held m) m
  pub same : length m.numbers.now ≡ length l.numbers.now
  pub room : entry_size * m.count ≤ length m.numbers.now

pub went : {l m : LogBuffer} {M : Log} → held l ⊑ M → InRoom (room_of l) M → Becomes l M m → Went l m
went {l} {m} {M} p k h =
    let most = k.most in
    let e = sym (becomes_held h) in
    let n = h.count in
    let same : length m.numbers.now ≡ length l.numbers.now = ap length h.holds ∙ length-holding l.numbers.now M (omega arith) in
    record {
      on = subst (λ (M : Log). held l ⊑ M) e p;
      log = subst (InRoom (room_of l)) e k;
      becomes = subst (λ (M : Log). Becomes l M m) e h;
      same = same;
      room = omega arith;
    }

module _ {l m : LogBuffer} (w : Went l m) where
  pub same_room : room_of m ≡ room_of l
  same_room = ap (λ (n : ℕ). n / entry_size) w.same

  -- what comes of the second buffer comes of the first
  pub over : {c : LogBuffer} {M : Log} → held m ⊑ M → Becomes m M c → Becomes l M c
  over {M = M} p h =
      let n = ⊑_length p in
      record {
        count = h.count;
        holds = h.holds ∙ ap (λ (b : _). holding b M) w.becomes.holds ∙ holding_again l.numbers.now (held m) M n;
        same = h.same ∙ w.becomes.same;
      }

  pub went_trans : {p : LogBuffer} → Went m p → Went l p
  went_trans {p} v = record {
    on = ⊑_trans w.on v.on;
    log = subst (λ (k : ℕ). InRoom k (held p)) same_room v.log;
    becomes = over v.on v.becomes;
    same = v.same ∙ w.same;
    room = v.room;
  }

  pub went_holds : Holds m.numbers.now m.count
  went_holds = record { room = w.room; rules = λ q h. entries_rules m.numbers.now m.count q w.log.ok h }

  -- an evaluation that ends there
  module _ {x : E.Evaluated} where
    leaves : {y : E.Evaluated} → x ≡ y → log_in y ≡ held m → Leaves l x (answer y) m
    leaves e h = record { is = sym (ap answer e); log = subst (λ (L : Log). Becomes l L m) (sym (ap log_in e ∙ h)) w.becomes }

    pub leaves_value : {v : Value} → x ≡ E.value v (held m) → Leaves l x (Ok v) m
    leaves_value e = leaves e refl

    pub leaves_stop : {code : Stop} → x ≡ E.stopped code (held m) → Leaves l x (Err code) m
    leaves_stop e = leaves e refl

-- ------------------------------------------------------------------------------------------------
-- What is known of an evaluation x of a type, by its answer

pub data Known (l : LogBuffer) (t : ValueType) (x : E.Evaluated) (m : LogBuffer) : Result Value Stop → Type 0 where
  known : {v : Value} → Went l m → x ≡ E.value v (held m) → Has (held m) v t → Known l t x m (Ok v)
  known_stop : {code : Stop} → Went l m → x ≡ E.stopped code (held m) → Known l t x m (Err code)

pub known_of : {l m : LogBuffer} {t : ValueType} {x : E.Evaluated} {r : Result Value Stop} → Gives (room_of l) (held l) t x → Leaves l x r m → Known l t x m r
known_of {l} {m} {t} (gives {v = v} {M = M} p k h) left =
    let e = sym (becomes_held left.log) in
    subst (Known l t (E.value v M) m) (sym left.is) (known (went p k left.log) (ap (E.value v) e) (subst (λ (M : Log). Has M v t) e h))
known_of {l} {m} {t} (stops {code = code} {M = M} p k c) left =
    let e = sym (becomes_held left.log) in
    subst (Known l t (E.stopped code M) m) (sym left.is) (known_stop (went p k left.log) (ap (E.stopped code) e))
