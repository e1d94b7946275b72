-- No second answer fits: the contract leaves one result, and one content of the state and of the log. Assumes nothing.
use contract.Lifetimes.{Lfts}
use Rattle.base.specs.OneAnswer.{OneOutcome}
use Rattle.effect.proofs.Unique.{Having, having, leaves_unique}
use Rattle.execute.proofs as execute

pub block_unique : (lent : Lfts 6) → OneOutcome {X = Having} (execute.turns.block.Reads.Post lent) (λ s. having s.1.0.now)
block_unique lent a x y s t = leaves_unique
