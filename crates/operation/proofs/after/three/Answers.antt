-- `after::three`: where the third operand has a value, and where it stopped. Assumes nothing.
use Rattle.std.proofs.Common.{ap}
use Rattle.operation.specs.After.{three_after}
use Rattle.operation.proofs.OutcomeLaws.{leaves_stop, is_stop}
use Rattle.operation.proofs.after.three.Goals as goal

pub of_three-requires-clause-three_fits : goal.of_three-requires-clause-three_fits
of_three-requires-clause-three_fits c = c.requires.fits _ c.in_ok-e.was

pub returns-in_err-e : goal.returns-in_err-e
returns-in_err-e c =
    let a = c.args in
    leaves_stop (c.requires.room _ c.in_err-e.was) (ap (three_after a.log.now a.r a.x a.y) c.in_err-e.was) (is_stop c.from_residual.ensures)
