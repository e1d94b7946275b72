-- No second answer fits: the contract of each public function leaves one result. Assumes nothing.
use contract.Lifetimes.{Lfts}
use Rattle.base.specs.OneAnswer.{OneAnswer}
use Rattle.base.proofs.Unique.{is_unique}
use Rattle.starts.proofs as starts

pub entries_unique : (lent : Lfts 2) →
    OneAnswer (starts.entries.Entries.head_ok.Reads.Post lent)
    × OneAnswer (starts.entries.Entries.all_ok.Reads.Post lent)
entries_unique lent = search is_unique

pub pairs_unique : (lent : Lfts 5) → OneAnswer (starts.pairs.pairs_ok.Reads.Post lent)
pairs_unique lent a x y s t = is_unique

-- its promise is for every budget, so at one
pub starts_unique : (lent : Lfts 4) → OneAnswer (starts.rules.starts_ok.Reads.Post lent)
starts_unique lent a x y s t p q = is_unique (p 0) (q 0)
