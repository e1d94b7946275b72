-- The verdict's line, and more where it accepts. Assumes nothing.
use Rattle.std.proofs.Common.{refl, sym, ap, subst, ◌∙◌, List, ℕ, Bor, arith}
use Rattle.report.specs.Lines.{verdict_word}
use Rattle.report.specs.Placed.{Puts}
use Rattle.report.proofs.PlacedLaws.{then_puts, wider}
use Rattle.typing.specs.Verdict.{check}
use Rattle.base.specs.Refusals.{Accepted}
use Rattle.bilrun.specs.Report.{longest_accepted, longest_report}
use Rattle.bilrun.specs.Report as Report
use Rattle.bilrun.proofs.ReportLaws.{answer_text, report_accepted, report_refused}
use Rattle.bilrun.proofs.report.Goals as goal

pub accepted-requires-in-Ok-clause-table_value : goal.accepted-requires-in-Ok-clause-table_value
accepted-requires-in-Ok-clause-table_value c = ap (λ (b : Bor (List ℕ)). check b.now) c.in-Ok.ensures.bytes ∙ sym c.in-Ok.ensures.answer

pub returns-in-Ok : goal.returns-in-Ok
returns-in-Ok c =
    let s = c.args.table.now in
    let line = answer_text verdict_word c.in-Ok.ensures.answer refl refl in
    let more =
    subst (λ (b : Bor (List ℕ)). Puts longest_accepted c.answer_line.new.out (Report.accepted b.now) c.accepted-in-Ok.new.out) c.in-Ok.ensures.bytes
    c.accepted-in-Ok.ensures in
    subst (λ (t : List ℕ). Puts longest_report c.args.out.now t c.accepted-in-Ok.new.out) (report_accepted s line (sym c.in-Ok.ensures.answer))
    (then_puts c.answer_line.ensures more)

pub returns-in-Err : goal.returns-in-Err
returns-in-Err c =
    let s = c.args.table.now in
    let line = answer_text verdict_word c.in-Err.ensures.answer c.number.ensures refl in
    subst (λ (t : List ℕ). Puts longest_report c.args.out.now t c.answer_line-in-Err.new.out) (report_refused s line (sym c.in-Err.ensures.answer))
    (wider c.answer_line-in-Err.ensures (omega arith))
