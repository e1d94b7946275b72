-- The bytes so far stand in the buffer, and those to come, appended to the log that it holds, make the whole store. Assumes nothing.
use Rattle.std.proofs.Common.{◌^◌, ◌<◌}
use Rattle.memory.specs.Access as Access
use Rattle.memory.specs.Access.{bytes_in}
use Rattle.memory.specs.Buffer.{held, room_of}
use Rattle.logs.proofs.AppendLaws.{Appending}
use Rattle.logs.proofs.store.append.Given as goal

abbrev pub invariant-loop-i : goal.invariant-loop-i
invariant-loop-i l = (l.at < 2 ^ l.w)
    × Appending l.initial.log l.w (bytes_in l.z l.big l.value)
    (Access.append (room_of l.initial.log) l.w (bytes_in l.z l.big l.value) l.head l.a (held l.initial.log)) l.log l.newest l.at l.i
