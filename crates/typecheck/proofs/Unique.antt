-- No second answer fits: the contract of each public function leaves one result. Assumes nothing.
use contract.Lifetimes.{Lfts}
use Rattle.base.specs.OneAnswer.{OneAnswer}
use Rattle.base.proofs.Unique.{is_unique}
use Rattle.typecheck.proofs as typecheck

pub types_unique : (lent : Lfts 2) →
    OneAnswer (typecheck.walk.TypesJudgement.one.Reads.Post tt)
    × OneAnswer (typecheck.walk.TypesJudgement.two.Reads.Post lent)
    × OneAnswer (typecheck.walk.TypesJudgement.three.Reads.Post tt)
    × OneAnswer (typecheck.walk.type_at.Reads.Post lent)
    × OneAnswer (typecheck.rules.types_ok.Reads.Post lent)
types_unique lent = search is_unique
