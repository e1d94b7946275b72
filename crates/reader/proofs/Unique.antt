-- No second answer fits. Assumes nothing.
use Rattle.std.proofs.Common.{◌≡◌, subst, List, ℕ, Bor}
use Rattle.std.specs.Prelude.{Result, Ok, IfOk}
use contract.Lifetimes.{Lfts}
use Rattle.base.specs.declared.Refusal.{Refusal}
use Rattle.base.specs.Refusals.{answer_of}
use Rattle.base.proofs.Unique.{is_unique}
use Rattle.table.specs.declared.read.Table.{Table}
use Rattle.reader.proofs as reader

-- a table that is read is that of the bytes, and its header is theirs (`frame_unique`, table)
pub read_bytes : {w : Bor (List ℕ)} (r : Result Table Refusal) (t : Table) → IfOk r (λ k. k.frame.bytes ≡ w) → r ≡ Ok t → t.frame.bytes ≡ w
read_bytes {w} r t h e = subst (λ (o : Result Table Refusal). IfOk o (λ k. k.frame.bytes ≡ w)) e h

pub reads_unique :
    (lent : Lfts 1) (a : _) (x y : _) (s t : _) → reader.reads.Reads.Post lent a x s → reader.reads.Reads.Post lent a y t
    → (answer_of x ≡ answer_of y) × ((f g : Table) → x ≡ Ok f → y ≡ Ok g → f.frame.bytes ≡ g.frame.bytes)
reads_unique lent a x y s t p q = (is_unique p.0 q.0, λ f g e d. is_unique (read_bytes x f p.1 e) (read_bytes y g q.1 d))
