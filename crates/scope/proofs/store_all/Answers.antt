-- `store_all`: each operand has its place, and v is stored there. Assumes nothing.
use Rattle.scope.proofs.HandingLaws.{storing_next, storing_place, storing_last}
use Rattle.scope.proofs.store_all.Goals as goal

pub bounds-lets-k : goal.bounds-lets-k
bounds-lets-k c = storing_place c.loop-k.invariant c.in-Some.ensures.steps

pub loop-k-preserved : goal.loop-k-preserved
loop-k-preserved c = storing_next c.loop-k.invariant c.in-Some.ensures.steps

pub returns : goal.returns
returns c = storing_last c.loop-k.invariant c.in-None.ensures.steps.0
