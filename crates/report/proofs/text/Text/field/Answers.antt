-- A space, then the number. Assumes nothing.
use Rattle.report.specs.Lines.{field}
use Rattle.report.proofs.PlacedLaws.{then_puts}
use Rattle.report.proofs.text.Text.field.Goals as goal

pub returns : goal.returns
unfolding field
returns c = then_puts c.add.ensures c.number.ensures
