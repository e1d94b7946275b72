-- No second answer fits: the contract of each public function leaves one result. Assumes nothing.
use contract.Lifetimes.{Lfts}
use Rattle.base.specs.OneAnswer.{OneAnswer}
use Rattle.base.proofs.Unique.{is_unique}
use Rattle.sealing.proofs as sealing

pub ops_unique :
    OneAnswer (sealing.ops.may_go.Reads.Post tt)
    × OneAnswer (sealing.ops.either.Reads.Post tt)
    × OneAnswer (sealing.ops.load.Reads.Post tt)
    × OneAnswer (sealing.ops.store.Reads.Post tt)
    × OneAnswer (sealing.ops.lets.Reads.Post tt)
ops_unique = search is_unique

pub by_op_unique : (lent : Lfts 2) →
    OneAnswer (sealing.by_op.is_sealed.Reads.Post lent)
    × OneAnswer (sealing.by_op.leaf.Reads.Post lent)
    × OneAnswer (sealing.by_op.two.Reads.Post lent)
    × OneAnswer (sealing.by_op.three.Reads.Post tt)
by_op_unique lent = search is_unique
