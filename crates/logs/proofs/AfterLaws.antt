-- A buffer after a store: code may be given it again, with the memory that the store gave. Assumes nothing.
use Rattle.std.proofs.Common.{◌≡◌, ℕ, ◌*◌, ◌≤◌, Bool, length, sym, subst, ap₂, ◌∙◌, arith}
use Rattle.std.specs.Prelude.{Result, Ok, Err}
use Rattle.value.specs.declared.ValueType.{ValueType}
use Rattle.value.specs.declared.ValueType.TheVariants.{Imm, Mem}
use Rattle.value.specs.declared.Value.{Value}
use Rattle.table.specs.Asked.{SizeOk}
use Rattle.memory.specs.declared.Full.{Full}
use Rattle.memory.specs.declared.LogBuffer.{LogBuffer}
use Rattle.memory.specs.Log.{Log, entry_size, entries}
use Rattle.memory.specs.Buffer.{held, room_of, Becomes}
use Rattle.memory.specs.Access as Access
use Rattle.memory.specs.Typed.{Has}
use Rattle.memory.proofs.AccessKeeps.{Stores, stores, fills, store_keeps}
use Rattle.memory.proofs.LogLaws.{◌⊑◌, entries_holding, length-entries}
use Rattle.memory.proofs.LogRules.{entries_ok}
use Rattle.logs.specs.Held.{Holds}
use Rattle.logs.specs.Storing.{Leaves, answer, log_in}
use Rattle.logs.proofs.HoldingLaws.{holding_holds}

-- the log that a buffer then has
pub becomes_held : {b c : LogBuffer} {L : Log} → Becomes b L c → held c ≡ L
becomes_held {b} {L = L} h = ap₂ entries h.holds h.count ∙ entries_holding b.numbers.now L

-- a log that went on from L, in a buffer that holds it, with a memory of a type in it where the store was done
pub data After (L : Log) (t : ValueType) (c : LogBuffer) : Result Value Full → Type 0 where
  after_done : {v : Value} → L ⊑ held c → Holds c.numbers.now c.count → Has (held c) v t → After L t c (Ok v)
  after_full : {f : Full} → L ⊑ held c → Holds c.numbers.now c.count → After L t c (Err f)

module _ {L : Log} {t : ValueType} (b c : LogBuffer) (h : entry_size * room_of b ≤ length b.numbers.now) where
  after : {x : Access.Stored} → Stores (room_of b) L t x → Becomes b (log_in x) c → After L t c (answer x)
  after (stores {v = v} {M = M} on k has) left =
      let most = k.most in
      let e = sym (becomes_held left) in
      after_done (subst (λ (M : Log). L ⊑ M) e on) (rw (left.holds, left.count) (holding_holds b.numbers.now M k.ok (omega arith)))
      (subst (λ (M : Log). Has M v t) e has)
  after (fills {M = M} on k) left =
      let most = k.most in
      after_full (subst (λ (M : Log). L ⊑ M) (sym (becomes_held left)) on)
      (rw (left.holds, left.count) (holding_holds b.numbers.now M k.ok (omega arith)))

-- what a store leaves, from a buffer that holds a log
pub store-after :
    {b c : LogBuffer} {z w : ℕ} {r : Result Value Full} (big : Bool) (m a v : Value) → Holds b.numbers.now b.count → SizeOk z
    → Has (held b) m (Mem w) → Has (held b) a (Imm w)
    → Leaves b (Access.store (room_of b) (held b) z big m a v) r c → After (held b) (Mem w) c r
store-after {b} {c} {w = w} big m a v h size hm ha left =
    let full = h.room in
    let n = length-entries b.numbers.now b.count in
    let keeps = store_keeps {room = room_of b} big m a v size (record { ok = entries_ok b.numbers.now b.count h.rules; most = omega arith }) hm ha in
    subst (After (held b) (Mem w) c) (sym left.is) (after b c (omega arith) keeps left.log)
