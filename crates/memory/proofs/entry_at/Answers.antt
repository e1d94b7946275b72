-- `entry_at`: field by field. Assumes nothing.
use Rattle.std.proofs.Common.{rules}
use Rattle.memory.specs.Log.{entry_at}
use Rattle.memory.proofs.entry_at.Goals as goal

pub returns : goal.returns
unfolding entry_at
returns c = search rules
