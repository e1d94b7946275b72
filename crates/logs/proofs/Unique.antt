-- No second answer fits: the contract of each public function leaves one result. Assumes nothing.
use contract.Lifetimes.{Lfts}
use Rattle.base.specs.OneAnswer.{OneAnswer, OneOutcome}
use Rattle.base.proofs.Unique.{is_unique}
use Rattle.word.proofs.Unique.{gives_unique}
use Rattle.memory.proofs.Unique.{Content, content, becomes_unique}
use Rattle.logs.proofs as logs

pub above_unique : OneAnswer (logs.addresses.above.Reads.Post tt)
above_unique a x y s t = gives_unique

pub byte_at_unique : (lent : Lfts 1) → OneAnswer (logs.chain.byte_at.Reads.Post lent)
byte_at_unique lent a x y s t = is_unique

pub load_unique : (lent : Lfts 1) → OneAnswer (logs.load.load.Reads.Post lent)
load_unique lent a x y s t p q = is_unique p.is q.is

-- the result, and what the buffer holds at exit
pub store_unique : (lent : Lfts 2) → OneOutcome {X = Content} (logs.store.store.Reads.Post lent) (λ s. content s.0.now)
store_unique lent a x y s t p q = (is_unique p.is q.is, becomes_unique p.log q.log)
