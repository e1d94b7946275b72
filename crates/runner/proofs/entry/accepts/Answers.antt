-- `entry::accepts`: the check, and the start's rules where it accepts. Assumes nothing.
use Rattle.std.proofs.Common.{refl, ap, ◌∙◌, List, ℕ, Bor}
use Rattle.base.specs.Refusals.{refusal}
use Rattle.base.proofs.RefusalLaws.{answer_itself, hands_on, refuses_here, answers_next}
use Rattle.typing.specs.Verdict.{check, check_rules}
use Rattle.running.specs.Start.{start_rules}
use Rattle.running.specs.Result.{run_rules}
use Rattle.starts.specs.Lent.{lent}
use Rattle.runner.proofs.entry.accepts.Goals as goal

pub returns-in_err-read : goal.returns-in_err-read
unfolding run_rules check
returns-in_err-read c budget =
    let a = c.args in
    let start = lent a.table.now a.state.now a.log.now a.count a.next budget in
    answer_itself _ ∙ hands_on _ (refuses_here (check_rules a.table.now) (start_rules start) c.in_err-read.ensures.answer refl) c.from_residual.ensures

pub returns : goal.returns
unfolding run_rules check
returns c budget =
    let a = c.args in
    answers_next (check_rules a.table.now) (start_rules (lent a.table.now a.state.now a.log.now a.count a.next budget)) c.in_ok-read.ensures.answer refl
    (c.starts_ok.ensures budget
    ∙ ap (λ (b : Bor (List ℕ)). refusal (start_rules (lent b.now a.state.now a.log.now a.count a.next budget))) c.in_ok-read.ensures.bytes)
