-- The word, the five numbers and the line's end, one behind the other. Assumes nothing.
use Rattle.report.specs.Lines.{run_line}
use Rattle.report.proofs.PlacedLaws.{then_puts}
use Rattle.report.proofs.lines.run_line.Goals as goal

pub returns : goal.returns
unfolding run_line
returns c =
    then_puts
    (then_puts
    (then_puts (then_puts (then_puts (then_puts c.add.ensures c.field.ensures) c.field-2.ensures) c.field-3.ensures) c.field-4.ensures)
    c.field-5.ensures)
    c.add-2.ensures
