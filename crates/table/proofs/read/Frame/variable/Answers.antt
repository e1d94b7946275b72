-- `Frame::variable`: the frame holds the record. Assumes nothing.
use Rattle.table.specs.Bytes.{variable}
use Rattle.table.proofs.read.Frame.variable.Goals as goal

pub returns : goal.returns
unfolding variable
returns c = c.variable_at.ensures
