-- By what the memory is. Assumes nothing.
use Rattle.std.proofs.Common.{sym, ap}
use Rattle.memory.specs.Access.{head_of}
use Rattle.logs.proofs.AppendLaws.{head_other}
use Rattle.logs.proofs.store.head_of.Goals as goal

pub returns-in-Memory : goal.returns-in-Memory
unfolding head_of
returns-in-Memory c = sym (ap head_of c.in-Memory.is)

pub returns-in_default : goal.returns-in_default
returns-in_default c = head_other c.args.memory c.in_default.not-Memory
