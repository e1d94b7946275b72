-- The word, the two numbers and the line's end, one behind the other. Assumes nothing.
use Rattle.std.proofs.Common.{arith}
use Rattle.report.specs.Lines.{answer_line}
use Rattle.report.proofs.PlacedLaws.{then_puts, wider}
use Rattle.report.proofs.lines.answer_line.Goals as goal

pub returns : goal.returns
unfolding answer_line
returns c =
    let short = c.requires.word_len_bound in
    wider (then_puts (then_puts (then_puts c.add.ensures c.field.ensures) c.field-2.ensures) c.add-2.ensures) (omega arith)
