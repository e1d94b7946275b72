-- `typecheck::rules::types_ok`: the invariant is that every statement passed keeps its rule. Assumes nothing.
use Rattle.base.proofs.PassedLaws.{Passed}
use Rattle.typing.specs.Verdict.{statement_type_rule}
use Rattle.typecheck.proofs.rules.types_ok.Given as goal

abbrev pub invariant-loop-i : goal.invariant-loop-i
invariant-loop-i l = Passed (statement_type_rule l.table.frame.bytes.now) l.table.frame.header.statements l.i
