-- Each arm calls what stands under its number; a number that is no sub gives unknown. Assumes nothing.
use Rattle.std.proofs.Common.{Some, ap}
use Rattle.word.proofs.SubLaws.{unary_arm, unary_other}
use Rattle.word.proofs.unary.Goals as goal

pub returns-in_default : goal.returns-in_default
returns-in_default c = unary_other _ _ _ c.in_default.in_default-own.rest

pub returns-in-1 : goal.returns-in-1
returns-in-1 c = unary_arm c.requires 1 c.in-1.is (ap Some c.neg.ensures.is)

pub returns-in-2 : goal.returns-in-2
returns-in-2 c = unary_arm c.requires 2 c.in-2.is (ap Some c.not.ensures.is)
