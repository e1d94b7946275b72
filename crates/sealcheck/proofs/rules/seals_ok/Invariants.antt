-- `sealcheck::rules::seals_ok`: the invariant is that every statement passed keeps its rule. Assumes nothing.
use Rattle.base.proofs.PassedLaws.{Passed}
use Rattle.sealing.specs.Verdict.{statement_seal_rule}
use Rattle.sealcheck.proofs.rules.seals_ok.Given as goal

abbrev pub invariant-loop-i : goal.invariant-loop-i
invariant-loop-i l = Passed (statement_seal_rule l.table.frame.bytes.now) l.table.frame.header.statements l.i
