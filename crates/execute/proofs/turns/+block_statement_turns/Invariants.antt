-- `turns::block`, `statement` and `turns`: a block's loop keeps that the rest of the block is what is left to run, a while's loop that the
-- while is. The measure is three times the ticks, and 2 more for a block, 1 for a statement, 0 for a while's turns: a block and its
-- statements may have the same ticks, and a body has fewer than its statement. Assumes nothing.
use Rattle.std.proofs.Common.{suc, ◌+◌, ◌-◌, ◌*◌}
use Rattle.table.specs.Decode.{block_at}
use Rattle.effect.specs.Leaving.{runs}
use Rattle.execute.specs.Extent.{bodies_of}
use Rattle.execute.proofs.EndedLaws.{Came}
use Rattle.execute.proofs.LoopLaws.{Going}
use Rattle.execute.proofs.turns.+block_statement_turns.Given as goal

abbrev pub decreases-block : goal.decreases-block
decreases-block l = 3 * l.machine.now.ticks + 2

abbrev pub decreases-statement : goal.decreases-statement
decreases-statement l = 3 * l.machine.now.ticks + 1

abbrev pub decreases-turns : goal.decreases-turns
decreases-turns l = 3 * l.machine.now.ticks

abbrev pub invariant-block-loop-i : goal.invariant-block-loop-i
invariant-block-loop-i l =
    Going l.table.frame.bytes.now l.initial.machine l.initial.machine.ticks (runs l.table.frame.bytes.now l.initial.machine l.initial.machine.ticks (block_at l.table.frame.bytes.now l.from l.size)) l.end l.i l.machine

abbrev pub decreases-block-loop-i : goal.decreases-block-loop-i
decreases-block-loop-i l = l.end - l.i

abbrev pub invariant-turns-loop-machine : goal.invariant-turns-loop-machine
invariant-turns-loop-machine l =
    Came l.table.frame.bytes.now l.initial.machine l.initial.machine.ticks
    (runs l.table.frame.bytes.now l.initial.machine l.initial.machine.ticks (block_at l.table.frame.bytes.now l.i (suc (bodies_of l.r)))) (block_at l.table.frame.bytes.now l.i (suc (bodies_of l.r))) l.machine
    l.machine.ticks

abbrev pub decreases-turns-loop-machine : goal.decreases-turns-loop-machine
decreases-turns-loop-machine l = l.machine.ticks
