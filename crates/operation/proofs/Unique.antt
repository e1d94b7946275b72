-- No second answer fits: the contract of each public function leaves one result, and one content of the log. Assumes nothing.
use contract.Lifetimes.{Lfts}
use Rattle.base.specs.OneAnswer.{OneAnswer, OneOutcome}
use Rattle.base.proofs.Unique.{is_unique}
use Rattle.memory.proofs.Unique.{Content, content, becomes_unique}
use Rattle.operation.proofs as operation

pub steps_of_unique : OneAnswer (operation.order.steps_of.Reads.Post tt)
steps_of_unique a x y s t = is_unique

pub leaf_unique : (lent : Lfts 4) → OneAnswer (operation.leaf.leaf.Reads.Post lent)
leaf_unique lent a x y s t = is_unique

pub unbound_unique : (lent : Lfts 3) → OneAnswer (operation.leaf.unbound.Reads.Post lent)
unbound_unique lent a x y s t = is_unique

pub at_once_unique : (lent : Lfts 4) → OneAnswer (operation.leaf.at_once.Reads.Post lent)
at_once_unique lent a x y s t = is_unique

pub one_unique : OneAnswer (operation.after.one.Reads.Post tt)
one_unique a x y s t = is_unique

pub two_unique : (lent : Lfts 2) → OneAnswer (operation.after.two.Reads.Post lent)
two_unique lent a x y s t = is_unique

-- the result, and what the buffer holds at exit
pub three_unique : (lent : Lfts 2) → OneOutcome {X = Content} (operation.after.three.Reads.Post lent) (λ s. content s.0.now)
three_unique lent a x y s t p q = (is_unique p.is q.is, becomes_unique p.log q.log)
