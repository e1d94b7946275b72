-- `accepted`: the records, and what stands on them where they hold. Assumes nothing.
use Rattle.std.proofs.Common.{◌≡◌, refl, ap, ◌∙◌, List, ◌++◌, ℕ, Bor}
use Rattle.base.specs.Refusals.{refusal}
use Rattle.base.proofs.RefusalLaws.{hands_on, refuses_here, answers_next}
use Rattle.table.specs.Records.{header_rules, record_rules}
use Rattle.forest.specs.Forest.{forest_rules}
use Rattle.typing.specs.Verdict.{type_rules}
use Rattle.verdict.proofs.CheckLaws.{check_parts}
use Rattle.verdict.proofs.accepted.Goals as goal

-- the rules are those of the table that is lent
same : {b t : Bor (List ℕ)} → b ≡ t → refusal (forest_rules b.now ++ type_rules b.now) ≡ refusal (forest_rules t.now ++ type_rules t.now)
same e = ap (λ (b : Bor (List ℕ)). refusal (forest_rules b.now ++ type_rules b.now)) e

pub returns-in_err-table-clause-answer : goal.returns-in_err-table-clause-answer
returns-in_err-table-clause-answer c =
    let s = c.args.s.now in
    hands_on _ (refuses_here (header_rules s ++ record_rules s) (forest_rules s ++ type_rules s) c.in_err-table.ensures.answer refl ∙ check_parts s)
    c.from_residual.ensures

pub returns-in_err-forest_and_types-clause-answer : goal.returns-in_err-forest_and_types-clause-answer
returns-in_err-forest_and_types-clause-answer c =
    let s = c.args.s.now in
    answers_next (header_rules s ++ record_rules s) (forest_rules s ++ type_rules s) c.in_ok-table.ensures.answer refl
    (hands_on _ (c.in_err-forest_and_types.ensures ∙ same c.in_ok-table.ensures.bytes) c.from_residual-in_err-forest_and_types.ensures)
    ∙ check_parts s

pub returns-clause-answer : goal.returns-clause-answer
returns-clause-answer c =
    let s = c.args.s.now in
    answers_next (header_rules s ++ record_rules s) (forest_rules s ++ type_rules s) c.in_ok-table.ensures.answer refl
    (c.in_ok-forest_and_types.ensures ∙ same c.in_ok-table.ensures.bytes)
    ∙ check_parts s
