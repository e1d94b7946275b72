-- No second answer fits: the contract of each public function leaves one result. Assumes nothing.
use contract.Lifetimes.{Lfts}
use Rattle.base.specs.OneAnswer.{OneAnswer}
use Rattle.base.proofs.Unique.{is_unique}
use Rattle.scope.proofs as scope

pub checks_unique : (lent : Lfts 2) → OneAnswer (scope.scopes_ok.Reads.Post lent) × OneAnswer (scope.rules.forest_ok.Reads.Post lent)
checks_unique lent = search is_unique
