-- No second answer fits: the contract leaves one result, and one content of the log. Assumes nothing.
use contract.Lifetimes.{Lfts}
use Rattle.base.specs.OneAnswer.{OneOutcome}
use Rattle.base.proofs.Unique.{is_unique}
use Rattle.memory.proofs.Unique.{Content, content, becomes_unique}
use Rattle.evaluate.proofs as evaluate

-- the result, and what the log's buffer holds at exit
pub eval_unique : (lent : Lfts 5) → OneOutcome {X = Content} (evaluate.walk.eval.Reads.Post lent) (λ s. content s.1.1.0.now)
eval_unique lent a x y s t p q = (is_unique p.is q.is, becomes_unique p.log q.log)

pub operand_unique : (lent : Lfts 6) → OneOutcome {X = Content} (evaluate.walk.operand.Reads.Post lent) (λ s. content s.1.1.0.now)
operand_unique lent a x y s t p q = (is_unique p.is q.is, becomes_unique p.log q.log)

pub whole_unique : (lent : Lfts 5) → OneOutcome {X = Content} (evaluate.whole.whole.Reads.Post lent) (λ s. content s.1.1.0.now)
whole_unique lent a x y s t p q = (is_unique p.is q.is, becomes_unique p.log q.log)
