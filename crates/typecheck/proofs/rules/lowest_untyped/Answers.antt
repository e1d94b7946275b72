use Rattle.std.proofs.Common.{rules}
use Rattle.typecheck.proofs.VerdictLaws.{types_searched}
use Rattle.typecheck.proofs.rules.lowest_untyped.Goals as goal

pub returns : goal.returns
returns c = types_searched c.args.table.now.frame c.first_fault.ensures (λ i b inside tells. search rules)
