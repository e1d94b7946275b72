-- Each arm calls what stands under its number; a number that is no sub gives unknown. Assumes nothing.
use Rattle.std.proofs.Common.{Some, ap}
use Rattle.word.proofs.SubLaws.{binary_arm, binary_other}
use Rattle.word.proofs.binary.Goals as goal

pub returns-in_default : goal.returns-in_default
returns-in_default c = binary_other _ _ _ _ c.requires c.in_default.in_default-own.rest

pub returns-in-1 : goal.returns-in-1
returns-in-1 c = binary_arm c.requires 1 c.in-1.is (ap Some c.plus.ensures.is)

pub returns-in-2 : goal.returns-in-2
returns-in-2 c = binary_arm c.requires 2 c.in-2.is (ap Some c.minus.ensures.is)

pub returns-in-3 : goal.returns-in-3
returns-in-3 c = binary_arm c.requires 3 c.in-3.is (ap Some c.times.ensures.is)

pub returns-in-4 : goal.returns-in-4
returns-in-4 c = binary_arm c.requires 4 c.in-4.is c.div.ensures.is

pub returns-in-5 : goal.returns-in-5
returns-in-5 c = binary_arm c.requires 5 c.in-5.is c.sdiv.ensures.is

pub returns-in-6 : goal.returns-in-6
returns-in-6 c = binary_arm c.requires 6 c.in-6.is c.modulo.ensures.is

pub returns-in-7 : goal.returns-in-7
returns-in-7 c = binary_arm c.requires 7 c.in-7.is c.smod.ensures.is

pub returns-in-8 : goal.returns-in-8
returns-in-8 c = binary_arm c.requires 8 c.in-8.is (ap Some c.and.ensures.is)

pub returns-in-9 : goal.returns-in-9
returns-in-9 c = binary_arm c.requires 9 c.in-9.is (ap Some c.or.ensures.is)

pub returns-in-10 : goal.returns-in-10
returns-in-10 c = binary_arm c.requires 10 c.in-10.is (ap Some c.xor.ensures.is)

pub returns-in-11 : goal.returns-in-11
returns-in-11 c = binary_arm c.requires 11 c.in-11.is (ap Some c.lsl.ensures.is)

pub returns-in-12 : goal.returns-in-12
returns-in-12 c = binary_arm c.requires 12 c.in-12.is (ap Some c.lsr.ensures.is)

pub returns-in-13 : goal.returns-in-13
returns-in-13 c = binary_arm c.requires 13 c.in-13.is (ap Some c.asr.ensures.is)

pub returns-in-14 : goal.returns-in-14
returns-in-14 c = binary_arm c.requires 14 c.in-14.is (ap Some c.eq.ensures.is)

pub returns-in-15 : goal.returns-in-15
returns-in-15 c = binary_arm c.requires 15 c.in-15.is (ap Some c.neq.ensures.is)

pub returns-in-16 : goal.returns-in-16
returns-in-16 c = binary_arm c.requires 16 c.in-16.is (ap Some c.lt.ensures.is)

pub returns-in-17 : goal.returns-in-17
returns-in-17 c = binary_arm c.requires 17 c.in-17.is (ap Some c.le.ensures.is)

pub returns-in-18 : goal.returns-in-18
returns-in-18 c = binary_arm c.requires 18 c.in-18.is (ap Some c.slt.ensures.is)

pub returns-in-19 : goal.returns-in-19
returns-in-19 c = binary_arm c.requires 19 c.in-19.is (ap Some c.sle.ensures.is)
