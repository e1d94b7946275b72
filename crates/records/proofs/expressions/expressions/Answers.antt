use Rattle.std.proofs.Common.{rules}
use Rattle.records.proofs.SearchLaws.{expressions_searched}
use Rattle.records.proofs.expressions.expressions.Goals as goal

pub returns : goal.returns
returns c = expressions_searched c.args.frame.now.framed c.first_fault.ensures (λ i b inside tells. search rules)
