-- The seal check's line, then the run's. Assumes nothing.
use Rattle.std.proofs.Common.{◌≡◌, sym, ap, subst, ◌∙◌, List, ℕ, ◌*◌, arith, length}
use lib.ListN.{length-replicate}
use Rattle.std.proofs.lemmas.List.{take-replicate}
use Rattle.table.specs.declared.Header.{Header}
use Rattle.table.specs.Bytes.{header}
use Rattle.table.specs.Records.{Framed}
use Rattle.verdict.proofs.CheckLaws.{checked}
use Rattle.report.specs.Lines.{seal_word}
use Rattle.report.specs.Placed.{Puts}
use Rattle.report.proofs.PlacedLaws.{then_puts}
use Rattle.bilrun.specs.Report.{longest_accepted}
use Rattle.bilrun.proofs.ReportLaws.{answer_text, accepted_text}
use Rattle.bilrun.proofs.accepted.Goals as goal

pub slice_bounds-state-end : goal.slice_bounds-state-end
slice_bounds-state-end c =
    let most = c.args.frame.now.framed.variables in
    omega arith

pub slice_bounds-ran-end : goal.slice_bounds-ran-end
slice_bounds-ran-end c =
    let most = c.args.frame.now.framed.variables in
    sym (ap length (take-replicate (2 * c.args.frame.now.header.variables) 512 0 (omega arith)) ∙ length-replicate {A = ℕ} (2 * c.args.frame.now.header.variables) 0)

pub ran-requires-clause-state_value : goal.ran-requires-clause-state_value
ran-requires-clause-state_value c =
    let most = c.args.frame.now.framed.variables in
    take-replicate (2 * c.args.frame.now.header.variables) 512 0 (omega arith)

pub returns : goal.returns
returns c =
    let seal = answer_text seal_word c.seal_check-seal.ensures c.code_of.ensures c.place_of.ensures in
    subst (λ (t : List ℕ). Puts longest_accepted c.args.out.now t c.ran.new.out) (accepted_text c.args.frame.now.bytes.now seal)
    (then_puts c.answer_line.ensures c.ran.ensures)
