-- `uses::count`: a turn counts the operands of one record more. Assumes nothing.
use Rattle.forest.proofs.CountLaws.{count_none, count_one}
use Rattle.forest.proofs.uses.count.Goals as goal

pub loop-i-init : goal.loop-i-init
loop-i-init g c = count_none

pub loop-i-preserved : goal.loop-i-preserved
loop-i-preserved g c = count_one c.operands_of.result c.loop-i.invariant c.operands_of.ensures c.note_all.ensures
