-- `after::two`: where the second operand has a value. Assumes nothing.
use Rattle.operation.proofs.after.two.Goals as goal

pub of_two-requires-clause-two_fits : goal.of_two-requires-clause-two_fits
of_two-requires-clause-two_fits c = c.requires.fits _ c.in_ok-e.was
