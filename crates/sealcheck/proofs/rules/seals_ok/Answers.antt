-- `sealcheck::rules::seals_ok`: the invariant is that every statement passed keeps its rule, the measure what is left of them.
-- Assumes nothing.
use mathlib.Core.Path.{refl, ap}
use Rattle.base.proofs.PassedLaws.{none_passed, one_passed, refuses, all_passed}
use Rattle.table.specs.declared.Header.{Header}
use Rattle.sealing.specs.Verdict.{expression_seal_rule, statement_seal_rule, seal_rules}
use Rattle.sealcheck.proofs.VerdictLaws.{seals_accepted}
use Rattle.sealcheck.proofs.rules.seals_ok.Goals as goal

pub loop-i-init : goal.loop-i-init
unfolding seal_rules statement_seal_rule
loop-i-init c = none_passed _ (ap (λ (h : Header). h.statements) c.args.table.now.frame.framed.is) refl

pub returns-then-not-keeps : goal.returns-then-not-keeps
unfolding seal_rules statement_seal_rule
returns-then-not-keeps c =
    let s = c.args.table.now.frame.bytes.now in
    c.or_refused.ensures (expression_seal_rule s) (statement_seal_rule s) c.lowest_leak.ensures
    (refuses _ c.loop-i.invariant c.loop-i-test.true c.keeps.ensures c.if-not-keeps.true)

pub loop-i-preserved : goal.loop-i-preserved
unfolding seal_rules statement_seal_rule
loop-i-preserved c = one_passed _ c.loop-i.invariant c.loop-i-test.true c.keeps.ensures c.if-not-keeps.false

pub returns : goal.returns
unfolding seal_rules statement_seal_rule
returns c = seals_accepted c.args.table.now.records c.requires (all_passed _ c.loop-i.invariant c.loop-i-test.false)
