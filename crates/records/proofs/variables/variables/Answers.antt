use Rattle.std.proofs.Common.{rules}
use Rattle.records.proofs.SearchLaws.{variables_searched}
use Rattle.records.proofs.variables.variables.Goals as goal

pub returns : goal.returns
returns c = variables_searched c.args.frame.now.framed c.first_fault.ensures (λ i b inside tells. search rules)
