-- No second answer fits: the contract of each public function leaves one result. Assumes nothing.
use contract.Lifetimes.{Lfts}
use Rattle.base.specs.OneAnswer.{OneAnswer}
use Rattle.base.proofs.Unique.{is_unique}
use Rattle.typing.proofs as typing

pub ops_unique :
    OneAnswer (typing.ops.is_type.Reads.Post tt)
    × OneAnswer (typing.ops.load.Reads.Post tt)
    × OneAnswer (typing.ops.store.Reads.Post tt)
    × OneAnswer (typing.ops.binary.Reads.Post tt)
    × OneAnswer (typing.ops.unary.Reads.Post tt)
    × OneAnswer (typing.ops.cast.Reads.Post tt)
    × OneAnswer (typing.ops.lets.Reads.Post tt)
    × OneAnswer (typing.ops.ite.Reads.Post tt)
    × OneAnswer (typing.ops.extract.Reads.Post tt)
    × OneAnswer (typing.ops.concat.Reads.Post tt)
ops_unique = search is_unique

pub by_op_unique : (lent : Lfts 2) →
    OneAnswer (typing.by_op.declared.Reads.Post tt)
    × OneAnswer (typing.by_op.type_of.Reads.Post lent)
    × OneAnswer (typing.by_op.unknown.Reads.Post tt)
    × OneAnswer (typing.by_op.leaf.Reads.Post lent)
    × OneAnswer (typing.by_op.one.Reads.Post tt)
    × OneAnswer (typing.by_op.two.Reads.Post lent)
    × OneAnswer (typing.by_op.three.Reads.Post tt)
by_op_unique lent = search is_unique
