-- `rules::starts_ok`: one rule after the other, each asked where those before it hold. Assumes nothing.
use Rattle.std.proofs.Common.{sym, ap, ◌∙◌, ◌*◌, arith}
use Rattle.base.specs.Refusals.{Rule}
use Rattle.table.specs.declared.Header.{Header}
use Rattle.running.specs.Start.{Start, entry_rule, pair_rule, log_of}
use Rattle.running.proofs.StartKeeps.{Numbers}
use Rattle.starts.specs.Lent.{lent}
use Rattle.starts.proofs.NumberLaws.{numbers_accepted}
use Rattle.starts.proofs.rules.starts_ok.Goals as goal

abbrev entry_of : Start → Rule
entry_of t = entry_rule t.log t.count

abbrev pair_of : Start → Rule
pair_of t = pair_rule t.table t.state (log_of t)

pub invariant_of-entries : goal.invariant_of-entries
invariant_of-entries c =
    let a = c.args in
    let t = lent a.frame.now.bytes.now a.state.now a.log.now a.count a.next 0 in
    let fit : Numbers t = numbers_accepted t (c.numbers.ensures 0) c.in_ok-numbers.was in
    let count = fit.count in
    omega arith

pub all_ok-requires : goal.all_ok-requires
all_ok-requires c =
    let a = c.args in
    let t = lent a.frame.now.bytes.now a.state.now a.log.now a.count a.next 0 in
    let fit : Numbers t = numbers_accepted t (c.numbers.ensures 0) c.in_ok-numbers.was in
    let room = fit.room in
    let count = fit.count in
    omega arith

pub pairs_ok-requires : goal.pairs_ok-requires
pairs_ok-requires c =
    let a = c.args in
    let t = lent a.frame.now.bytes.now a.state.now a.log.now a.count a.next 0 in
    let fit : Numbers t = numbers_accepted t (c.numbers.ensures 0) c.in_ok-numbers.was in
    record { state_len = fit.state ∙ ap (λ (h : Header). 2 * h.variables) (sym c.args.frame.now.framed.is) }
