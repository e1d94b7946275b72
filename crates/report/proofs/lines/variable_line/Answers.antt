-- The word, the number, what the pair says and the line's end, one behind the other. Assumes nothing.
use Rattle.report.specs.Lines.{variable_line}
use Rattle.report.proofs.PlacedLaws.{then_puts}
use Rattle.report.proofs.lines.variable_line.Goals as goal

pub returns : goal.returns
unfolding variable_line
returns c = then_puts (then_puts (then_puts c.add.ensures c.field.ensures) c.content.ensures) c.add-2.ensures
