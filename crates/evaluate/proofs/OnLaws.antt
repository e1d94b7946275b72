-- A log that is stored to goes on. Assumes nothing.
use mathlib.Core.Bool.{Bool, true, false}
use mathlib.Core.List.{List, [], ◌∷◌}
use Prim.Native.Nat.{ℕ, suc}
use lib.Dec.{eqb, ltb}
use lib.ListN.{length}
use Rattle.base.proofs.NumberedLaws.{end, ◌then◌, numbered_all}
use Rattle.value.specs.declared.Value.{Value}
use Rattle.value.specs.declared.Value.TheVariants.{Word, Unknown, Memory}
use Rattle.value.specs.Values.{type_of, size}
use Rattle.table.specs.declared.Node.{Node}
use Rattle.memory.specs.Log.{Log}
use Rattle.memory.specs.Access.{Stored, stored, full, append, store, succ, bytes_in, head_of}
use Rattle.memory.proofs.LogLaws.{◌⊑◌, stay, more, ⊑_trans}
use Rattle.logs.specs.Storing as Storing
use Rattle.evaluation.specs.Evaluation.{Evaluated, value, after_store}
use Rattle.operation.specs.ByOp.{no_value, threes, three_value}
use Rattle.operation.specs.Outcome.{log_in}

append_on : (room w : ℕ) (bytes : List ℕ) (head a : ℕ) (L : Log) → L ⊑ Storing.log_in (append room w bytes head a L)
unfolding append
append_on room w [] head a L = stay
append_on room w (b ∷ bytes) head a L =
    let on : Log = record { previous = head; width = w; address = a; byte = b } ∷ L in
    go (append room w bytes (suc (length L)) (succ w a) on) (ltb (length L) room) (append_on room w bytes (suc (length L)) (succ w a) on)
  where
    go : (x : Stored) (t : Bool) → (record { previous = head; width = w; address = a; byte = b } ∷ L) ⊑ Storing.log_in x
        → L ⊑ Storing.log_in (elim t [ true ↦ x | false ↦ full L ])
    go x true h = ⊑_trans (more stay) h
    go x false h = stay

store_on : (room : ℕ) (L : Log) (z : ℕ) (big : Bool) (m a v : Value) → L ⊑ Storing.log_in (store room L z big m a v)
unfolding store
store_on room L z big m (Word w x) v = append_on room (size (type_of m)) (bytes_in z big v) (head_of m) x L
store_on room L z big m (Unknown t) v = stay
store_on room L z big m (Memory w head) v = stay

after_on : {L : Log} (x : Stored) → L ⊑ Storing.log_in x → L ⊑ log_in (after_store x)
unfolding after_store
after_on (stored v M) h = h
after_on (full M) h = h

pub three_on : (room : ℕ) (L : Log) (r : Node) (x y z : Value) → L ⊑ log_in (three_value room L r x y z)
unfolding three_value threes
three_on room L r x y z =
    numbered_all (λ (k : ℕ) (f : ℕ → Log → Node → Value → Value → Value → Evaluated). L ⊑ log_in (f room L r x y z)) (λ room L r x y z. value no_value L)
    (λ k. stay) threes (after_on (store room L r.p (eqb r.q 1) z y x) (store_on room L r.p (eqb r.q 1) z y x) then stay then end) r.op
