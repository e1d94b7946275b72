-- So far the lines of the first x variables are put. Assumes nothing.
use Rattle.std.proofs.Common.{◌*◌}
use Rattle.report.specs.Lines.{variable_lines, longest_variable}
use Rattle.report.specs.Placed.{Puts}
use Rattle.report.proofs.lines.variable_lines.Given as goal

abbrev pub invariant-loop-x : goal.invariant-loop-x
invariant-loop-x l = Puts (longest_variable * l.x) l.initial.out (variable_lines l.frame.bytes.now l.state l.x) l.out
