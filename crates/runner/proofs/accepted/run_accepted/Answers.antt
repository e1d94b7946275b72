-- `accepted::run_accepted`: the run of the whole block, its ticks counted from the budget. Assumes nothing.
use Rattle.std.proofs.Common.{◌≡◌, refl, sym, ap, subst, ◌∙◌, rules, arith}
use Rattle.table.specs.Records.{Framed}
use Rattle.effect.specs.Leaving.{ended}
use Rattle.starts.specs.Lent.{lent}
use Rattle.runner.proofs.RanLaws.{read, running, whole, ticks_most, gives_ran, gives_as, gives_ticks, again}
use Rattle.runner.proofs.accepted.run_accepted.Goals as goal
use Rattle.runner.proofs.accepted.run_accepted.Goals.{in-Ok, in-Err}

pub header-requires : goal.header-requires
header-requires c =
    let a = c.args in
    let start = lent a.table.now a.state.now a.log.now a.count a.next a.budget in
    omega (arith, (read start c.requires).framed.whole)

pub invariant_of-frame : goal.invariant_of-frame
invariant_of-frame c =
    let a = c.args in
    let start = lent a.table.now a.state.now a.log.now a.count a.next a.budget in
    record { framed = subst (Framed a.table.now) (sym c.header.ensures) (read start c.requires).framed }

pub invariant_of-block : goal.invariant_of-block
invariant_of-block c =
    let a = c.args in
    record { records = (read (lent a.table.now a.state.now a.log.now a.count a.next a.budget) c.requires).records }

pub block-requires-clause-running : goal.block-requires-clause-running
block-requires-clause-running c =
    let a = c.args in
    running (lent a.table.now a.state.now a.log.now a.count a.next a.budget) c.requires
    (record { state = refl; log = refl; count = refl; next = refl; ticks = refl })

pub block-requires-clause-block : goal.block-requires-clause-block
block-requires-clause-block c =
    let a = c.args in
    whole (lent a.table.now a.state.now a.log.now a.count a.next a.budget) _ c.header.ensures

pub overflow_sub-result : goal.overflow_sub-result
overflow_sub-result c =
    let a = c.args in
    ticks_most (lent a.table.now a.state.now a.log.now a.count a.next a.budget) c.requires
    (record { state = refl; log = refl; count = refl; next = refl; ticks = refl }) _ c.header.ensures c.block.ensures

pub returns-clause-gives : goal.returns-clause-gives
returns-clause-gives c =
    let a = c.args in
    let ending : c.match-block.ending ≡ ended c.block.result =
    elim c.match-block.branch [ in-Ok w ↦ w.ending-is ∙ sym (ap ended w.in-Ok.is) | in-Err w ↦ w.ending-is ∙ sym (ap ended w.in-Err.is) ] in
    gives_ticks (omega arith) ending (search rules) (search rules)
    (gives_ran (lent a.table.now a.state.now a.log.now a.count a.next a.budget) c.requires
    (record { state = refl; log = refl; count = refl; next = refl; ticks = refl }) _ c.header.ensures c.block.ensures)

pub returns-clause-by_index : goal.returns-clause-by_index
returns-clause-by_index c =
    let a = c.args in
    again (lent a.table.now a.state.now a.log.now a.count a.next a.budget) c.requires
    (gives_as refl (search rules) (search rules)
    (gives_ran (lent a.table.now a.state.now a.log.now a.count a.next a.budget) c.requires
    (record { state = refl; log = refl; count = refl; next = refl; ticks = refl }) _ c.header.ensures c.block.ensures))
