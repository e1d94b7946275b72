-- The bytes read so far make the word so far, and the next stands at the address in hand; the measure is how many are left. Assumes nothing.
use Rattle.std.proofs.Common.{◌/◌, ◌^◌, ◌<◌}
use Rattle.memory.specs.Log.{entries, chain}
use Rattle.logs.proofs.JoinLaws.{Reading}
use Rattle.logs.proofs.load.word_at.Given as goal

abbrev pub invariant-loop-i : goal.invariant-loop-i
invariant-loop-i l = (l.at < 2 ^ l.w) × Reading (chain (entries l.log l.count) l.head) l.w (l.z / 8) l.a l.big l.i l.at l.v
