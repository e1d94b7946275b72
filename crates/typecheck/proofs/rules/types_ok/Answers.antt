-- `typecheck::rules::types_ok`: the invariant is that every statement passed keeps its rule, the measure what is left of them.
-- Assumes nothing.
use mathlib.Core.Path.{refl, ap}
use Rattle.base.proofs.PassedLaws.{none_passed, one_passed, refuses, all_passed}
use Rattle.table.specs.declared.Header.{Header}
use Rattle.typing.specs.Verdict.{expression_type_rule, statement_type_rule, type_rules}
use Rattle.typecheck.proofs.VerdictLaws.{types_accepted}
use Rattle.typecheck.proofs.rules.types_ok.Goals as goal

pub loop-i-init : goal.loop-i-init
unfolding type_rules statement_type_rule
loop-i-init c = none_passed _ (ap (λ (h : Header). h.statements) c.args.table.now.frame.framed.is) refl

pub returns-then-not-keeps : goal.returns-then-not-keeps
unfolding type_rules statement_type_rule
returns-then-not-keeps c =
    let s = c.args.table.now.frame.bytes.now in
    c.or_refused.ensures (expression_type_rule s) (statement_type_rule s) c.lowest_untyped.ensures
    (refuses _ c.loop-i.invariant c.loop-i-test.true c.keeps.ensures c.if-not-keeps.true)

pub loop-i-preserved : goal.loop-i-preserved
unfolding type_rules statement_type_rule
loop-i-preserved c = one_passed _ c.loop-i.invariant c.loop-i-test.true c.keeps.ensures c.if-not-keeps.false

pub returns : goal.returns
unfolding type_rules statement_type_rule
returns c = types_accepted c.args.table.now.records c.requires (all_passed _ c.loop-i.invariant c.loop-i-test.false)
