-- `judging::judged`: the measure is the expression's number. Assumes nothing.
use Rattle.judging.proofs.+judged.Given as goal

abbrev pub decreases-judged : goal.decreases-judged
decreases-judged g l = l.i
