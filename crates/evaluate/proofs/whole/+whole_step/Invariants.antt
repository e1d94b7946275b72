-- `whole::whole` and `whole::step`: the measure is twice the expression's number, and one more for `whole`, which may have to go on to the
-- step. Assumes nothing.
use Rattle.std.proofs.Common.{◌+◌, ◌*◌}
use Rattle.evaluate.proofs.whole.+whole_step.Given as goal

abbrev pub decreases-whole : goal.decreases-whole
decreases-whole l = 2 * l.i + 1

abbrev pub decreases-step : goal.decreases-step
decreases-step l = 2 * l.i
