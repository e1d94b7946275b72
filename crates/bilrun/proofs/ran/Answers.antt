-- The run's line, then the variables'. Assumes nothing.
use Rattle.std.proofs.Common.{subst, List, ℕ, arith}
use Rattle.report.specs.Placed.{Puts}
use Rattle.report.proofs.PlacedLaws.{then_puts, wider}
use Rattle.bilrun.specs.Report.{longest_ran}
use Rattle.bilrun.proofs.ReportLaws.{gives_started, ran_text}
use Rattle.bilrun.proofs.ran.Goals as goal

pub returns : goal.returns
returns c =
    let g = gives_started c.args.frame.now.bytes.now c.args.state.now c.args.log.now c.args.frame.now.framed.is c.requires.state_value c.requires.log_value c.run-o.ensures in
    let most = c.args.frame.now.framed.variables in
    let text = ran_text c.args.frame.now.bytes.now c.args.frame.now.framed.is g c.code_of.ensures c.place_of.ensures in
    subst (λ (t : List ℕ). Puts longest_ran c.args.out.now t c.variable_lines.new.out) text
    (wider (then_puts c.run_line.ensures c.variable_lines.ensures) (omega arith))
