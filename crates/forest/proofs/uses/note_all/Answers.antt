-- `uses::note_all`: an operand's counter has room, and goes up by one. Assumes nothing.
use Rattle.forest.proofs.CountLaws.{note_next, note_last, note_place}
use Rattle.forest.proofs.uses.note_all.Goals as goal

pub bounds-counts-k : goal.bounds-counts-k
bounds-counts-k c = note_place c.loop-k.invariant c.in-Some.ensures.steps

pub bounds-counts-k-in-loop-k : goal.bounds-counts-k-in-loop-k
bounds-counts-k-in-loop-k c = note_place c.loop-k.invariant c.in-Some.ensures.steps

pub loop-k-preserved : goal.loop-k-preserved
loop-k-preserved c = note_next c.loop-k.invariant c.in-Some.ensures.steps

pub returns : goal.returns
returns c = note_last c.loop-k.invariant c.in-None.ensures.steps.0
