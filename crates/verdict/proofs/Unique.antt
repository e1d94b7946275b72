-- No second answer fits. Assumes nothing.
use Rattle.std.proofs.Common.{◌≡◌}
use Rattle.std.specs.Prelude.{Ok}
use contract.Lifetimes.{Lfts}
use Rattle.base.specs.OneAnswer.{OneAnswer}
use Rattle.base.specs.Refusals.{answer_of}
use Rattle.base.proofs.Unique.{is_unique}
use Rattle.table.specs.declared.read.Table.{Table}
use Rattle.reader.proofs.Unique.{read_bytes}
use Rattle.verdict.proofs as verdict

pub entries_unique : (lent : Lfts 1) → OneAnswer (verdict.check.Reads.Post lent) × OneAnswer (verdict.seal_check.Reads.Post lent)
entries_unique lent = search is_unique

pub accepted_unique :
    (lent : Lfts 1) (a : _) (x y : _) (s t : _) → verdict.accepted.Reads.Post lent a x s → verdict.accepted.Reads.Post lent a y t
    → (answer_of x ≡ answer_of y) × ((f g : Table) → x ≡ Ok f → y ≡ Ok g → f.frame.bytes ≡ g.frame.bytes)
accepted_unique lent a x y s t p q = (is_unique p.0 q.0, λ f g e d. is_unique (read_bytes x f p.1 e) (read_bytes y g q.1 d))
