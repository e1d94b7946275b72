use Rattle.std.proofs.Common.{rules}
use Rattle.sealcheck.proofs.VerdictLaws.{seals_searched}
use Rattle.sealcheck.proofs.rules.lowest_leak.Goals as goal

pub returns : goal.returns
returns c = seals_searched c.args.table.now.frame c.first_fault.ensures (λ i b inside tells. search rules)
