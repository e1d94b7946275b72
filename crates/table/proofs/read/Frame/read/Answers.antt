-- `framing::framing`: the rules that hold are passed over, and the first that fails is the answer. Assumes nothing.
use mathlib.Core.Path.{sym, ◌∙◌}
use lib.Dec.{leb}
use borrow.Author.Tests.{le-leb, lt-leb, leb-true}
use Rattle.base.proofs.BoolLaws.{passed, failed, and_left, and_right}
use Rattle.base.proofs.RefusalLaws.{whole_fails, whole_holds, no_rules}
use Rattle.table.specs.Records.{header_rules, most_variables, most_expressions}
use Rattle.table.proofs.FieldLaws.{within_is}
use Rattle.table.proofs.read.Frame.read.Goals as goal

pub returns-then-s-lt32-clause-answer : goal.returns-then-s-lt32-clause-answer
unfolding header_rules
returns-then-s-lt32-clause-answer c = sym (whole_fails _ _ _ (lt-leb 32 _ c.if-s-lt32.true))

pub returns-then-not-format_ok-clause-answer : goal.returns-then-not-format_ok-clause-answer
unfolding header_rules
returns-then-not-format_ok-clause-answer c =
    let is = c.header-h.ensures in
    sym
    (whole_holds _ _ _ (le-leb 32 _ c.if-s-lt32.false)
    ∙ whole_fails _ _ _ (rw is at (failed c.format_ok.ensures c.if-not-format_ok.true)))

pub returns-then-not-counts_ok-clause-answer : goal.returns-then-not-counts_ok-clause-answer
unfolding header_rules
returns-then-not-counts_ok-clause-answer c =
    let is = c.header-h.ensures in
    sym
    (whole_holds _ _ _ (le-leb 32 _ c.if-s-lt32.false)
    ∙ whole_holds _ _ _ (rw is at (passed c.format_ok.ensures c.if-not-format_ok.false))
    ∙ whole_fails _ _ _ (rw is at (failed c.counts_ok.ensures c.if-not-counts_ok.true)))

pub sections_ok-requires : goal.sections_ok-requires
sections_ok-requires c =
    let h = c.header-h.result in
    let c₀ = passed c.counts_ok.ensures c.if-not-counts_ok.false in
    let c₁ = and_right (leb h.variables most_variables) _ c₀ in
    let c₂ = within_is 1 1024 h.statements (and_right (leb h.expressions most_expressions) _ c₁) in
    record { variables_le_most_variables = leb-true h.variables most_variables (and_left _ _ c₀); expressions_le_most_expressions = leb-true h.expressions most_expressions (and_left _ _ c₁); statements_le_most_statements = c₂.1 }

pub returns-then-not-sections_ok-clause-answer : goal.returns-then-not-sections_ok-clause-answer
unfolding header_rules
returns-then-not-sections_ok-clause-answer c =
    let is = c.header-h.ensures in
    sym
    (whole_holds _ _ _ (le-leb 32 _ c.if-s-lt32.false)
    ∙ whole_holds _ _ _ (rw is at (passed c.format_ok.ensures c.if-not-format_ok.false))
    ∙ whole_holds _ _ _ (rw is at (passed c.counts_ok.ensures c.if-not-counts_ok.false))
    ∙ whole_fails _ _ _ (rw is at (failed c.sections_ok.ensures c.if-not-sections_ok.true)))

pub returns-clause-answer : goal.returns-clause-answer
unfolding header_rules
returns-clause-answer c =
    let is = c.header-h.ensures in
    sym
    (whole_holds _ _ _ (le-leb 32 _ c.if-s-lt32.false)
    ∙ whole_holds _ _ _ (rw is at (passed c.format_ok.ensures c.if-not-format_ok.false))
    ∙ whole_holds _ _ _ (rw is at (passed c.counts_ok.ensures c.if-not-counts_ok.false))
    ∙ whole_holds _ _ _ (rw is at (passed c.sections_ok.ensures c.if-not-sections_ok.false))
    ∙ no_rules)
