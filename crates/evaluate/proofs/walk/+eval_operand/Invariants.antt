-- The walk: the measure is three times the expression's number, and one more for `eval`, which goes on at the same one, two more for an
-- operand and for a let's body, which `eval` may have to go down to. Assumes nothing.
use Rattle.std.proofs.Common.{◌+◌, ◌*◌}
use Rattle.evaluate.proofs.walk.+eval_operand.Given as goal

abbrev pub decreases-under : goal.decreases-under
decreases-under l = 3 * l.i

abbrev pub decreases-eval : goal.decreases-eval
decreases-eval l = 3 * l.i + 1

abbrev pub decreases-operand : goal.decreases-operand
decreases-operand l = 3 * l.i + 2

abbrev pub decreases-inside : goal.decreases-inside
decreases-inside l = 3 * l.i + 2
