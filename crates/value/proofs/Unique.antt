-- No second answer fits: the contract of each public function leaves one result. Assumes nothing.
use Rattle.std.proofs.Common.{◌≡◌}
use Rattle.base.specs.OneAnswer.{OneAnswer}
use Rattle.base.proofs.Unique.{is_unique}
use Rattle.value.specs.declared.ValueType.{ValueType}
use Rattle.value.specs.declared.Value.{Value}
use Rattle.value.specs.Values.{Yields}
use Rattle.value.proofs as value

yields_unique : {t : ValueType} {v x y : Value} → Yields t v x → Yields t v y → x ≡ y
yields_unique p q = is_unique p.is q.is

pub types_unique :
    OneAnswer (value.binary_width.Reads.Post tt)
    × OneAnswer (value.ValueType.size.Reads.Post tt)
    × OneAnswer (value.Value.type_of.Reads.Post tt)
types_unique = search is_unique

pub operations_unique :
    OneAnswer (value.Value.binary.Reads.Post tt)
    × OneAnswer (value.Value.unary.Reads.Post tt)
    × OneAnswer (value.Value.cast.Reads.Post tt)
    × OneAnswer (value.Value.extract.Reads.Post tt)
    × OneAnswer (value.Value.concat.Reads.Post tt)
    × OneAnswer (value.Value.choose.Reads.Post tt)
operations_unique = search yields_unique
