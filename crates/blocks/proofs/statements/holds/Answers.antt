-- `statements::holds`: the two halves of the rule. Assumes nothing.
use mathlib.Core.Path.{ap}
use Rattle.table.specs.declared.Header.{Header}
use Rattle.blocks.proofs.StatementLaws.{rule_by_parts}
use Rattle.blocks.proofs.statements.holds.Goals as goal

pub returns : goal.returns
returns c =
    rule_by_parts c.args.frame.now.bytes.now c.args.i (ap (λ (h : Header). h.expressions) c.args.frame.now.framed.is) c.statement-r.ensures
    c.fields_ok-named.ensures c.second_end-end.ensures c.block_end-around.ensures
