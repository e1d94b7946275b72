-- `entry::run`: the refusal that comes, or the run. Assumes nothing.
use Rattle.std.proofs.Common.{sym, ap, ◌∙◌, ℕ, arith}
use Rattle.runner.specs.Given.{refused_at}
use Rattle.starts.specs.Lent.{lent}
use Rattle.runner.proofs.ResultLaws.{gives_refused, gives_result}
use Rattle.runner.proofs.entry.run.Goals as goal

pub run_accepted-requires : goal.run_accepted-requires
run_accepted-requires c = sym (c.accepts.ensures c.args.budget) ∙ c.in-Ok.is

pub returns-in-Err : goal.returns-in-Err
returns-in-Err c =
    let a = c.args in
    gives_refused (lent a.table.now a.state.now a.log.now a.count a.next a.budget) (c.accepts.ensures a.budget) c.in-Err.is
    (c.refused.ensures ∙ ap (λ (n : ℕ). refused_at c.in-Err.refusal n a.next) (grind arith))

pub returns-in-Ok : goal.returns-in-Ok
returns-in-Ok c =
    let a = c.args in
    gives_result (lent a.table.now a.state.now a.log.now a.count a.next a.budget) (c.accepts.ensures a.budget) c.in-Ok.is c.run_accepted.ensures.gives
