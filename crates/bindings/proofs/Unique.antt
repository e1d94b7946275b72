-- No second answer fits: the contract of each public function leaves one result. Assumes nothing.
use contract.Lifetimes.{Lfts}
use Rattle.base.specs.OneAnswer.{OneAnswer}
use Rattle.base.proofs.Unique.{is_unique}
use Rattle.bindings.proofs as bindings

pub none_unique : OneAnswer (bindings.Bindings.none.Reads.Post tt)
none_unique a x y s t = is_unique

pub with_unique : OneAnswer (bindings.Bindings.with.Reads.Post tt)
with_unique a x y s t = is_unique

pub find_unique : (lent : Lfts 1) → OneAnswer (bindings.Bindings.find.Reads.Post lent)
find_unique lent a x y s t = is_unique
