-- Before the first variable nothing is put; a variable's line goes behind the lines of those before it. Assumes nothing.
use Rattle.std.proofs.Common.{◌≡◌, subst, ℕ, suc, ◌+◌, ◌*◌, arith}
use Rattle.report.specs.Lines.{variable_lines, longest_variable}
use Rattle.report.specs.Placed.{Puts}
use Rattle.report.proofs.PlacedLaws.{then_puts, puts_none, wider}
use Rattle.report.proofs.lines.variable_lines.Goals as goal

pub loop-x-init : goal.loop-x-init
unfolding variable_lines
loop-x-init c = puts_none c.args.out.now

pub loop-x-preserved : goal.loop-x-preserved
unfolding variable_lines
loop-x-preserved c =
    let x = c.loop-x.x in
    let next : suc x ≡ x + 1 = omega arith in
    let put : Puts (longest_variable * x + longest_variable) c.args.out.now (variable_lines c.args.frame.now.bytes.now c.args.state.now (suc x)) c.line_of.new.out =
    then_puts c.loop-x.invariant c.line_of.ensures in
    subst (λ (k : ℕ). Puts (longest_variable * (x + 1)) c.args.out.now (variable_lines c.args.frame.now.bytes.now c.args.state.now k) c.line_of.new.out) next
    (wider put (omega arith))
