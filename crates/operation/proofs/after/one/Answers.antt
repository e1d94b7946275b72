-- `after::one`: where the operand has a value. Assumes nothing.
use Rattle.operation.proofs.after.one.Goals as goal

pub of_one-requires : goal.of_one-requires
of_one-requires c = c.requires.fits _ c.in_ok-e.was
