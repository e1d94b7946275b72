-- `reads`: the frame, and the records where it holds. Assumes nothing.
use Rattle.std.proofs.Common.{◌≡◌, sym, ap, refl, ◌∙◌, List, ℕ, Bor}
use Rattle.base.specs.Refusals.{refusal}
use Rattle.base.proofs.RefusalLaws.{accepted_iff, hands_on, refuses_here, answers_next}
use Rattle.table.specs.Records.{header_rules, record_rules}
use Rattle.table.proofs.RecordLaws.{records_hold_iff}
use Rattle.reader.proofs.reads.Goals as goal

-- the rules of the records are those of the table that is lent
same : {b t : Bor (List ℕ)} → b ≡ t → refusal (record_rules b.now) ≡ refusal (record_rules t.now)
same e = ap (λ (b : Bor (List ℕ)). refusal (record_rules b.now)) e

pub returns-in_err-frame-clause-answer : goal.returns-in_err-frame-clause-answer
returns-in_err-frame-clause-answer c =
    let s = c.args.s.now in
    hands_on _ (refuses_here (header_rules s) (record_rules s) c.in_err-frame.ensures.answer refl) c.from_residual.ensures

pub returns-in_err-records_hold-clause-answer : goal.returns-in_err-records_hold-clause-answer
returns-in_err-records_hold-clause-answer c =
    let s = c.args.s.now in
    answers_next (header_rules s) (record_rules s) c.in_ok-frame.ensures.answer refl
    (hands_on _ (c.in_err-records_hold.ensures ∙ same c.in_ok-frame.ensures.bytes) c.from_residual-in_err-records_hold.ensures)

pub invariant_of-result : goal.invariant_of-result
invariant_of-result c =
    let t = c.in_ok-frame.frame.bytes.now in
    record { records = (records_hold_iff t).0 ((accepted_iff (record_rules t)).0 (sym c.in_ok-records_hold.ensures)) }

pub returns-clause-answer : goal.returns-clause-answer
returns-clause-answer c =
    let s = c.args.s.now in
    answers_next (header_rules s) (record_rules s) c.in_ok-frame.ensures.answer refl (c.in_ok-records_hold.ensures ∙ same c.in_ok-frame.ensures.bytes)
