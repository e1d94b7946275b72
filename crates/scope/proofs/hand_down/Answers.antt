-- `hand_down`: every operand gets what the expression has, then a let's body the let itself. Assumes nothing.
use Rattle.scope.proofs.HandingLaws.{body_place, handed_to_body}
use Rattle.scope.proofs.hand_down.Goals as goal

pub bounds-lets-r : goal.bounds-lets-r
bounds-lets-r c = body_place c.args.r c.args.i c.of_expression.ensures c.store_all.ensures c.if-r-eq-LET.true c.requires.all_below

pub returns-then-r-eq-LET : goal.returns-then-r-eq-LET
returns-then-r-eq-LET c =
    handed_to_body c.args.r c.args.i c.of_expression.ensures c.store_all.ensures c.if-r-eq-LET.true c.requires.all_below
