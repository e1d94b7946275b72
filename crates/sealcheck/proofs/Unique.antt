-- No second answer fits: the contract of each public function leaves one result. Assumes nothing.
use contract.Lifetimes.{Lfts}
use Rattle.base.specs.OneAnswer.{OneAnswer}
use Rattle.base.proofs.Unique.{is_unique}
use Rattle.sealcheck.proofs as sealcheck

pub sealcheck_unique : (lent : Lfts 2) →
    OneAnswer (sealcheck.walk.label_at.Reads.Post lent)
    × OneAnswer (sealcheck.rules.seals_ok.Reads.Post lent)
sealcheck_unique lent = search is_unique
