-- Each arm calls what stands under its number; a number that is no sub gives unknown. Assumes nothing.
use Rattle.std.proofs.Common.{Some, ap}
use Rattle.word.proofs.SubLaws.{cast_arm, cast_other}
use Rattle.word.proofs.cast.Goals as goal

pub returns-in_default : goal.returns-in_default
returns-in_default c = cast_other _ _ _ _ c.requires.word c.requires.cast_fits c.in_default.in_default-own.rest

pub returns-in-1 : goal.returns-in-1
returns-in-1 c = cast_arm c.requires.word c.requires.cast_fits 1 c.in-1.is (ap Some c.low.ensures.is)

pub returns-in-2 : goal.returns-in-2
returns-in-2 c = cast_arm c.requires.word c.requires.cast_fits 2 c.in-2.is (ap Some c.high.ensures.is)

pub returns-in-3 : goal.returns-in-3
returns-in-3 c = cast_arm c.requires.word c.requires.cast_fits 3 c.in-3.is (ap Some c.signed.ensures.is)

pub returns-in-4 : goal.returns-in-4
returns-in-4 c = cast_arm c.requires.word c.requires.cast_fits 4 c.in-4.is (ap Some c.unsigned.ensures.is)
