-- `turns::block`, `statement` and `turns`: what each leaves is what the run of its statements leaves. Assumes nothing.
use Rattle.std.proofs.Common.{refl, sym, ap, subst, ℕ, suc, ◌+◌, ◌≤◌, ◌<◌, arith}
use Rattle.std.specs.Prelude.{Result, ⊤}
use Rattle.table.specs.declared.Node.{Node}
use Rattle.table.specs.Decode.{block_at}
use Rattle.effect.specs.declared.Halt.{Halt}
use Rattle.effect.specs.Leaving.{RunLeaves, runs}
use Rattle.effect.proofs.LeavingLaws.{handed}
use Rattle.execute.specs.Extent.{bodies_of}
use Rattle.execute.proofs.EndedLaws.{came_first, came_begun, same_but_ticks, same_ticks, same_ticks_begun, leaves_same_ticks}
use Rattle.execute.proofs.LoopLaws.{going_first, end_small, block_ends, stands_at, bodies_before, block_goes_on, block_halts}
use Rattle.execute.proofs.BodyLaws.{came_without, begun, guard, single_leaves, if_stops, then_block, then_came, then_leaves, else_block, else_came}
use Rattle.execute.proofs.BodyLaws.{else_leaves, while_body, while_running, while_again, while_halts, while_fewer, while_fails, while_stops}
use Rattle.execute.proofs.turns.+block_statement_turns.Goals as goal

-- ------------------------------------------------------------------------------------------------
-- A block

pub block-loop-i-init : goal.block-loop-i-init
block-loop-i-init t c = going_first c.args.from c.args.size c.requires.running c.requires.block

pub block-statement-requires : goal.block-statement-requires
block-statement-requires t c =
    let g = c.loop-i.invariant in
    let less = g.came.fewer in
    let mine = c.decreases in
    (omega arith, (same_but_ticks _ refl refl refl g.came.running, (stands_at g c.loop-i-test.true, c.statement-r.ensures)))

pub block-returns-in_err-statement : goal.block-returns-in_err-statement
block-returns-in_err-statement t c =
    handed
    (λ (r : Result ⊤ Halt). RunLeaves c.args.machine.now (runs c.args.table.now.frame.bytes.now c.args.machine.now c.args.machine.now.ticks (block_at c.args.table.now.frame.bytes.now c.args.from c.args.size)) r c.statement.new.machine)
    c.from_residual.ensures (block_halts c.loop-i.invariant c.loop-i-test.true c.statement-r.ensures (same_ticks _ refl refl refl (omega arith) _ c.in_err-statement.ensures))

pub block-bodies_of-requires : goal.block-bodies_of-requires
block-bodies_of-requires t c =
    let g = c.loop-i.invariant in
    let f = bodies_before g c.loop-i-test.true in
    let e = end_small g in
    subst (λ (q : Node). bodies_of q < 4294967296) (sym c.statement-r.ensures) (omega arith)

pub block-overflow_add-i-in-loop-i : goal.block-overflow_add-i-in-loop-i
block-overflow_add-i-in-loop-i t c =
    let g = c.loop-i.invariant in
    let e = end_small g in
    let n = c.bodies_of.ensures in
    let f = subst (λ (q : Node). c.loop-i.i + 1 + bodies_of q ≤ c.args.from + c.args.size) (sym c.statement-r.ensures) (bodies_before g c.loop-i-test.true) in
    omega arith

pub block-loop-i-preserved : goal.block-loop-i-preserved
block-loop-i-preserved t c =
    block_goes_on c.loop-i.invariant c.loop-i-test.true c.statement-r.ensures (same_ticks _ refl refl refl (omega arith) _ c.in_ok-statement.ensures)
    (ap (λ (k : ℕ). c.loop-i.i + 1 + k) c.bodies_of.ensures)

pub block-returns : goal.block-returns
block-returns t c = block_ends c.loop-i.invariant c.loop-i-test.false

-- ------------------------------------------------------------------------------------------------
-- A statement

pub statement-returns-in_err-begin-in-6 : goal.statement-returns-in_err-begin-in-6
statement-returns-in_err-begin-in-6 t c =
    handed (λ (r : Result ⊤ Halt). RunLeaves c.args.machine.now (runs c.args.table.now.frame.bytes.now c.args.machine.now c.args.machine.now.ticks (block_at c.args.table.now.frame.bytes.now c.args.i (suc (bodies_of c.args.r)))) r c.begin.new.machine) c.from_residual.ensures
    (came_without (bodies_of c.args.r) c.requires.standing (came_first c.args.machine.now.ticks (block_at c.args.table.now.frame.bytes.now c.args.i (suc (bodies_of c.args.r))) c.requires.running) c.in_err-begin-in-6.ensures.none)

pub statement-holds-requires-clause-e_bound : goal.statement-holds-requires-clause-e_bound
statement-holds-requires-clause-e_bound t c =
    let here = (begun c.requires.standing c.requires.r_value c.in-6.is (came_first c.args.machine.now.ticks (block_at c.args.table.now.frame.bytes.now c.args.i (suc (bodies_of c.args.r))) c.requires.running) c.in_ok-begin-in-6.ensures.begun) in
    guard here (omega arith)

pub statement-returns-in_err-holds-in-6 : goal.statement-returns-in_err-holds-in-6
statement-returns-in_err-holds-in-6 t c =
    handed (λ (r : Result ⊤ Halt). RunLeaves c.args.machine.now (runs c.args.table.now.frame.bytes.now c.args.machine.now c.args.machine.now.ticks (block_at c.args.table.now.frame.bytes.now c.args.i (suc (bodies_of c.args.r)))) r c.holds.new.machine) c.from_residual-in_err-holds-in-6.ensures
    (if_stops (begun c.requires.standing c.requires.r_value c.in-6.is (came_first c.args.machine.now.ticks (block_at c.args.table.now.frame.bytes.now c.args.i (suc (bodies_of c.args.r))) c.requires.running) c.in_ok-begin-in-6.ensures.begun) c.in_err-holds-in-6.ensures)

pub statement-block-requires : goal.statement-block-requires
statement-block-requires t c =
    let here = (begun c.requires.standing c.requires.r_value c.in-6.is (came_first c.args.machine.now.ticks (block_at c.args.table.now.frame.bytes.now c.args.i (suc (bodies_of c.args.r))) c.requires.running) c.in_ok-begin-in-6.ensures.begun) in
    let tick = c.in_ok-begin-in-6.ensures.begun.ticks in
    let same = c.in_ok-holds-in-6.ensures.rest.ticks in
    let mine = c.decreases in
    (omega arith, ((then_came here c.in_ok-holds-in-6.ensures c.if-branch.true).running, then_block here))

pub statement-overflow_add-i-else-branch-2 : goal.statement-overflow_add-i-else-branch-2
statement-overflow_add-i-else-branch-2 t c =
    let here = (begun c.requires.standing c.requires.r_value c.in-6.is (came_first c.args.machine.now.ticks (block_at c.args.table.now.frame.bytes.now c.args.i (suc (bodies_of c.args.r))) c.requires.running) c.in_ok-begin-in-6.ensures.begun) in
    let few = (else_block here).inside in
    let most = c.requires.running.framed.statements in
    omega arith

pub statement-block-requires-else-branch : goal.statement-block-requires-else-branch
statement-block-requires-else-branch t c =
    let here = (begun c.requires.standing c.requires.r_value c.in-6.is (came_first c.args.machine.now.ticks (block_at c.args.table.now.frame.bytes.now c.args.i (suc (bodies_of c.args.r))) c.requires.running) c.in_ok-begin-in-6.ensures.begun) in
    let tick = c.in_ok-begin-in-6.ensures.begun.ticks in
    let same = c.in_ok-holds-in-6.ensures.rest.ticks in
    let mine = c.decreases in
    (omega arith, ((else_came here c.in_ok-holds-in-6.ensures c.if-branch.false).running, else_block here))

pub statement-returns-then-branch : goal.statement-returns-then-branch
statement-returns-then-branch t c =
    let here = (begun c.requires.standing c.requires.r_value c.in-6.is (came_first c.args.machine.now.ticks (block_at c.args.table.now.frame.bytes.now c.args.i (suc (bodies_of c.args.r))) c.requires.running) c.in_ok-begin-in-6.ensures.begun) in
    then_leaves here c.in_ok-holds-in-6.ensures c.if-branch.true c.block.ensures

pub statement-returns-else-branch : goal.statement-returns-else-branch
statement-returns-else-branch t c =
    let here = (begun c.requires.standing c.requires.r_value c.in-6.is (came_first c.args.machine.now.ticks (block_at c.args.table.now.frame.bytes.now c.args.i (suc (bodies_of c.args.r))) c.requires.running) c.in_ok-begin-in-6.ensures.begun) in
    else_leaves here c.in_ok-holds-in-6.ensures c.if-branch.false c.block-else-branch.ensures

pub statement-returns-in_err-begin-in_default : goal.statement-returns-in_err-begin-in_default
statement-returns-in_err-begin-in_default t c =
    handed (λ (r : Result ⊤ Halt). RunLeaves c.args.machine.now (runs c.args.table.now.frame.bytes.now c.args.machine.now c.args.machine.now.ticks (block_at c.args.table.now.frame.bytes.now c.args.i (suc (bodies_of c.args.r)))) r c.begin-in_default.new.machine) c.from_residual-in_err-begin-in_default.ensures
    (came_without (bodies_of c.args.r) c.requires.standing (came_first c.args.machine.now.ticks (block_at c.args.table.now.frame.bytes.now c.args.i (suc (bodies_of c.args.r))) c.requires.running) c.in_err-begin-in_default.ensures.none)

pub statement-single-requires : goal.statement-single-requires
statement-single-requires t c =
    let here = came_begun (came_first c.args.machine.now.ticks (block_at c.args.table.now.frame.bytes.now c.args.i (suc (bodies_of c.args.r))) c.requires.running) c.in_ok-begin-in_default.ensures.begun in
    record {
      running = same_but_ticks _ refl refl refl here.running;
      standing = c.requires.standing;
      r_value = c.requires.r_value;
      fact = (c.in_default.in_default-own.rest.0.1, c.in_default.in_default-own.rest.1);
    }

pub statement-returns-in_ok-begin-in_default : goal.statement-returns-in_ok-begin-in_default
statement-returns-in_ok-begin-in_default t c =
    let here = came_begun (came_first c.args.machine.now.ticks (block_at c.args.table.now.frame.bytes.now c.args.i (suc (bodies_of c.args.r))) c.requires.running) c.in_ok-begin-in_default.ensures.begun in
    single_leaves c.requires.standing c.requires.r_value here c.in_default.in_default-own.rest.0.1 c.in_default.in_default-own.rest.1 (same_ticks_begun _ refl refl refl (omega arith) _ c.single.ensures)

-- ------------------------------------------------------------------------------------------------
-- The turns of a while

pub turns-loop-machine-init : goal.turns-loop-machine-init
turns-loop-machine-init t c = came_first c.args.machine.now.ticks (block_at c.args.table.now.frame.bytes.now c.args.i (suc (bodies_of c.args.r))) c.requires.running

pub turns-returns-in_err-begin : goal.turns-returns-in_err-begin
turns-returns-in_err-begin t c =
    handed (λ (r : Result ⊤ Halt). RunLeaves c.args.machine.now (runs c.args.table.now.frame.bytes.now c.args.machine.now c.args.machine.now.ticks (block_at c.args.table.now.frame.bytes.now c.args.i (suc (bodies_of c.args.r)))) r c.begin.new.machine) c.from_residual.ensures
    (came_without (bodies_of c.args.r) c.requires.standing c.loop-machine.invariant c.in_err-begin.ensures.none)

pub turns-holds-requires-clause-e_bound : goal.turns-holds-requires-clause-e_bound
turns-holds-requires-clause-e_bound t c =
    let here = (begun c.requires.standing c.requires.r_value c.requires.op_value c.loop-machine.invariant c.in_ok-begin.ensures.begun) in
    guard here (omega arith)

pub turns-returns-in_err-holds : goal.turns-returns-in_err-holds
turns-returns-in_err-holds t c =
    handed (λ (r : Result ⊤ Halt). RunLeaves c.args.machine.now (runs c.args.table.now.frame.bytes.now c.args.machine.now c.args.machine.now.ticks (block_at c.args.table.now.frame.bytes.now c.args.i (suc (bodies_of c.args.r)))) r c.holds.new.machine) c.from_residual-in_err-holds.ensures
    (while_stops (begun c.requires.standing c.requires.r_value c.requires.op_value c.loop-machine.invariant c.in_ok-begin.ensures.begun) c.in_err-holds.ensures)

pub turns-returns-then-not-branch : goal.turns-returns-then-not-branch
turns-returns-then-not-branch t c =
    leaves_same_ticks refl refl refl (omega arith)
    (while_fails (begun c.requires.standing c.requires.r_value c.requires.op_value c.loop-machine.invariant c.in_ok-begin.ensures.begun) c.in_ok-holds.ensures c.if-not-branch.true)

pub turns-block-requires : goal.turns-block-requires
turns-block-requires t c =
    let here = (begun c.requires.standing c.requires.r_value c.requires.op_value c.loop-machine.invariant c.in_ok-begin.ensures.begun) in
    let tick = c.in_ok-begin.ensures.begun.ticks in
    let same = c.in_ok-holds.ensures.rest.ticks in
    let less = c.loop-machine.invariant.fewer in
    let mine = c.decreases in
    (omega arith, (while_running here c.in_ok-holds.ensures c.if-not-branch.false, while_body here))

pub turns-loop-machine-smaller : goal.turns-loop-machine-smaller
turns-loop-machine-smaller t c =
    let here = (begun c.requires.standing c.requires.r_value c.requires.op_value c.loop-machine.invariant c.in_ok-begin.ensures.begun) in
    let tick = c.in_ok-begin.ensures.begun.ticks in
    let same = c.in_ok-holds.ensures.rest.ticks in
    let less = while_fewer here c.in_ok-holds.ensures c.if-not-branch.false c.in_ok-block.ensures in
    omega arith

pub turns-loop-machine-preserved : goal.turns-loop-machine-preserved
turns-loop-machine-preserved t c =
    let here = (begun c.requires.standing c.requires.r_value c.requires.op_value c.loop-machine.invariant c.in_ok-begin.ensures.begun) in
    while_again here c.in_ok-holds.ensures c.if-not-branch.false c.in_ok-block.ensures

pub turns-returns-in_err-block : goal.turns-returns-in_err-block
turns-returns-in_err-block t c =
    handed (λ (r : Result ⊤ Halt). RunLeaves c.args.machine.now (runs c.args.table.now.frame.bytes.now c.args.machine.now c.args.machine.now.ticks (block_at c.args.table.now.frame.bytes.now c.args.i (suc (bodies_of c.args.r)))) r c.block.new.machine) c.from_residual-in_err-block.ensures
    (while_halts (begun c.requires.standing c.requires.r_value c.requires.op_value c.loop-machine.invariant c.in_ok-begin.ensures.begun) c.in_ok-holds.ensures c.if-not-branch.false c.in_err-block.ensures)
