-- No second answer fits: the contract of each public function leaves one result, and one content of the state. Assumes nothing.
use contract.Lifetimes.{Lfts}
use Rattle.base.specs.OneAnswer.{OneAnswer, OneContent}
use Rattle.base.proofs.Unique.{is_unique}
use Rattle.states.proofs as states

pub value_of_unique : OneAnswer (states.value_of.Reads.Post tt)
value_of_unique a x y s t = is_unique

pub kind_of_unique : OneAnswer (states.kind_of.Reads.Post tt)
kind_of_unique a x y s t = is_unique

pub number_of_unique : OneAnswer (states.number_of.Reads.Post tt)
number_of_unique a x y s t = is_unique

pub read_unique : (lent : Lfts 1) → OneAnswer (states.read.Reads.Post lent)
read_unique lent a x y s t = is_unique

pub write_unique : (lent : Lfts 1) → OneContent (states.write.Reads.Post lent) (λ s. s.0.now)
write_unique lent a x y s t = is_unique
