-- The walk: the byte from the entry that it has come to is the byte from the head. The measure is that entry's number: a previous
-- entry is lower. Assumes nothing.
use Rattle.std.proofs.Common.{◌≡◌, ◌≤◌}
use Rattle.memory.specs.Log.{entries, chain}
use Rattle.memory.specs.Access.{byte_at}
use Rattle.logs.proofs.chain.byte_at.Given as goal

abbrev pub invariant-loop-at : goal.invariant-loop-at
invariant-loop-at l = (l.at ≤ l.count) × (byte_at (chain (entries l.log l.count) l.head) l.address ≡ byte_at (chain (entries l.log l.count) l.at) l.address)

abbrev pub decreases-loop-at : goal.decreases-loop-at
decreases-loop-at l = l.at
