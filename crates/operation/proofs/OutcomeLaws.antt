-- What an evaluation leaves: a store's answer, and a buffer that is as it was. Assumes nothing.
use mathlib.Core.Path.{◌≡◌, sym, ap, subst, ◌∙◌}
use Prim.Native.Nat.{ℕ, ◌*◌, ◌≤◌}
use lib.ListN.{length}
use Rattle.std.specs.Prelude.{Result, Ok, Err}
use Rattle.std.specs.Result.{IsErr, IsErrAnd}
use Rattle.std.proofs.lemmas.Result.{err_from_is_err_and}
use Rattle.base.specs.declared.codes.Stop.{Stop}
use Rattle.base.specs.declared.codes.Stop.TheVariants as Stops
use Rattle.value.specs.declared.Value.{Value}
use Rattle.memory.specs.declared.Full.{Full}
use Rattle.memory.specs.declared.LogBuffer.{LogBuffer}
use Rattle.memory.specs.Log.{Log, entry_size}
use Rattle.memory.specs.Buffer.{held, Becomes}
use Rattle.memory.specs.Access as Access
use Rattle.logs.specs.Storing as Storing
use Rattle.logs.proofs.AppendLaws.{becomes_same}
use Rattle.evaluation.specs.Evaluation as E
use Rattle.operation.specs.Outcome.{Leaves, answer, log_in}

-- a stop where the log had no room
abbrev pub store_answer : Result Value Full → Result Value Stop
store_answer (Ok v) = Ok v
store_answer (Err f) = Err Stops.LogFull

pub store_leaves : {b c : LogBuffer} {r : Result Value Full} {q : Result Value Stop} (x : Access.Stored) → Storing.Leaves b x r c → q ≡ store_answer r
    → Leaves b (E.after_store x) q c
unfolding E.after_store
store_leaves (Access.stored v L) h k = record { is = k ∙ ap store_answer h.is; log = h.log }
store_leaves (Access.full L) h k = record { is = k ∙ ap store_answer h.is; log = h.log }

-- an evaluation that ends with the log that the buffer has
pub leaves_value : {b : LogBuffer} {x : E.Evaluated} {v r : Value} → entry_size * b.count ≤ length b.numbers.now → x ≡ E.value v (held b) → r ≡ v
    → Leaves b x (Ok r) b
leaves_value {b} {x} h e k = record {
  is = ap Ok k ∙ sym (ap answer e);
  log = subst (λ (L : Log). Becomes b L b) (sym (ap log_in e)) (becomes_same b h);
}

pub leaves_stop : {b : LogBuffer} {x : E.Evaluated} {code : Stop} {r : Result Value Stop} → entry_size * b.count ≤ length b.numbers.now
    → x ≡ E.stopped code (held b) → r ≡ Err code → Leaves b x r b
leaves_stop {b} {x} h e k = record {
  is = k ∙ sym (ap answer e);
  log = subst (λ (L : Log). Becomes b L b) (sym (ap log_in e)) (becomes_same b h);
}

-- a stop that `?` hands on
pub is_stop : {code : Stop} {r : Result Value Stop} → IsErr r × IsErrAnd r (λ y. y ≡ code) → r ≡ Err code
is_stop {r = r} h = let p = err_from_is_err_and r h.1 in p.1 ∙ ap Err p.2
