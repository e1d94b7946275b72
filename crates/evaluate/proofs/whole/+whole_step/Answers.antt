-- `whole::whole` and `whole::step`: the laws of the walk's ways, where no binding is in force. Assumes nothing.
use Rattle.std.proofs.Common.{refl, arith}
use Rattle.evaluate.proofs.ArmLaws.{arrived, down_whole, few_none, stopped, leaf_leaves, one_below, one_asks, one_leaves}
use Rattle.evaluate.proofs.ArmLaws.{unbound_asks, unbound_leaves, leaf_unbound}
use Rattle.evaluate.proofs.ArmLaws.{two_below, two_ready, two_stops, two_asks, two_leaves}
use Rattle.evaluate.proofs.ArmLaws.{let_below, let_asks, let_ready, let_stops, let_leaves}
use Rattle.evaluate.proofs.ArmLaws.{three_below, three_ready, three_ready_last, three_stops, three_stops_second, three_asks, three_leaves}
use Rattle.evaluate.proofs.whole.+whole_step.Goals as goal

-- ------------------------------------------------------------------------------------------------
-- No operand, and one

pub step-unbound-requires-clause-i_bound : goal.step-unbound-requires-clause-i_bound
step-unbound-requires-clause-i_bound t c = unbound_asks c.args.table.now.frame.framed.is c.requires.ready c.requires.i_bound

pub step-returns-in-Leaf : goal.step-returns-in-Leaf
step-returns-in-Leaf t c = leaf_leaves (arrived c.requires.ready c.requires.i_bound c.expression-r.ensures c.steps_of.ensures c.in-Leaf.is) (leaf_unbound c.args.table.now.frame.bytes.now c.args.state.now c.args.i c.expression-r.ensures c.unbound.ensures c.unwrap_or.ensures)

pub step-whole-e-requires : goal.step-whole-e-requires
step-whole-e-requires t c = down_whole c.decreases (one_below (arrived c.requires.ready c.requires.i_bound c.expression-r.ensures c.steps_of.ensures c.in-One.is)) c.requires.i_bound c.requires.ready

pub step-one-requires : goal.step-one-requires
step-one-requires t c = one_asks (arrived c.requires.ready c.requires.i_bound c.expression-r.ensures c.steps_of.ensures c.in-One.is) c.whole-e.ensures

pub step-returns-in-One : goal.step-returns-in-One
step-returns-in-One t c = one_leaves (arrived c.requires.ready c.requires.i_bound c.expression-r.ensures c.steps_of.ensures c.in-One.is) c.whole-e.ensures c.one.ensures

-- ------------------------------------------------------------------------------------------------
-- Two

pub step-whole-requires : goal.step-whole-requires
step-whole-requires t c = down_whole c.decreases (two_below (arrived c.requires.ready c.requires.i_bound c.expression-r.ensures c.steps_of.ensures c.in-Two.is)).0 c.requires.i_bound c.requires.ready

pub step-returns-in_err-x-in-Two : goal.step-returns-in_err-x-in-Two
step-returns-in_err-x-in-Two t c = stopped c.from_residual.ensures (two_stops (arrived c.requires.ready c.requires.i_bound c.expression-r.ensures c.steps_of.ensures c.in-Two.is) c.in_err-x-in-Two.ensures)

pub step-whole-e-requires-in-Two : goal.step-whole-e-requires-in-Two
step-whole-e-requires-in-Two t c = down_whole c.decreases (two_below (arrived c.requires.ready c.requires.i_bound c.expression-r.ensures c.steps_of.ensures c.in-Two.is)).1 c.requires.i_bound (two_ready (arrived c.requires.ready c.requires.i_bound c.expression-r.ensures c.steps_of.ensures c.in-Two.is) c.in_ok-x-in-Two.ensures)

pub step-two-requires : goal.step-two-requires
step-two-requires t c = two_asks (arrived c.requires.ready c.requires.i_bound c.expression-r.ensures c.steps_of.ensures c.in-Two.is) c.in_ok-x-in-Two.ensures c.whole-e-in-Two.ensures

pub step-returns-in_ok-x-in-Two : goal.step-returns-in_ok-x-in-Two
step-returns-in_ok-x-in-Two t c = two_leaves (arrived c.requires.ready c.requires.i_bound c.expression-r.ensures c.steps_of.ensures c.in-Two.is) c.in_ok-x-in-Two.ensures c.whole-e-in-Two.ensures c.two.ensures

-- ------------------------------------------------------------------------------------------------
-- A let

pub step-whole-requires-in-Let : goal.step-whole-requires-in-Let
step-whole-requires-in-Let t c = down_whole c.decreases (let_below (arrived c.requires.ready c.requires.i_bound c.expression-r.ensures c.steps_of.ensures c.in-Let.is)).0 c.requires.i_bound c.requires.ready

pub step-returns-in_err-x-in-Let : goal.step-returns-in_err-x-in-Let
step-returns-in_err-x-in-Let t c = stopped c.from_residual-in_err-x-in-Let.ensures (let_stops (arrived c.requires.ready c.requires.i_bound c.expression-r.ensures c.steps_of.ensures c.in-Let.is) c.in_err-x-in-Let.ensures)

pub step-first-requires : goal.step-first-requires
step-first-requires t c =
    let here = (arrived c.requires.ready c.requires.i_bound c.expression-r.ensures c.steps_of.ensures c.in-Let.is) in
    let small = let_asks here c.in_ok-x-in-Let.ensures in
    let below = (let_below here).1 in
    let inside = c.requires.i_bound in
    record { ready = let_ready here c.in_ok-x-in-Let.ensures few_none refl; x_bound = small.0; v_bound = small.1; i_bound = omega arith }

pub step-returns-in_ok-x-in-Let : goal.step-returns-in_ok-x-in-Let
step-returns-in_ok-x-in-Let t c = let_leaves (arrived c.requires.ready c.requires.i_bound c.expression-r.ensures c.steps_of.ensures c.in-Let.is) c.in_ok-x-in-Let.ensures few_none refl c.first.ensures

-- ------------------------------------------------------------------------------------------------
-- Three

pub step-whole-requires-in-Three : goal.step-whole-requires-in-Three
step-whole-requires-in-Three t c = down_whole c.decreases (three_below (arrived c.requires.ready c.requires.i_bound c.expression-r.ensures c.steps_of.ensures c.in-Three.is)).0 c.requires.i_bound c.requires.ready

pub step-returns-in_err-x-in-Three : goal.step-returns-in_err-x-in-Three
step-returns-in_err-x-in-Three t c = stopped c.from_residual-in_err-x-in-Three.ensures (three_stops (arrived c.requires.ready c.requires.i_bound c.expression-r.ensures c.steps_of.ensures c.in-Three.is) c.in_err-x-in-Three.ensures)

pub step-whole-requires-in-Three-2 : goal.step-whole-requires-in-Three-2
step-whole-requires-in-Three-2 t c = down_whole c.decreases (three_below (arrived c.requires.ready c.requires.i_bound c.expression-r.ensures c.steps_of.ensures c.in-Three.is)).1 c.requires.i_bound (three_ready (arrived c.requires.ready c.requires.i_bound c.expression-r.ensures c.steps_of.ensures c.in-Three.is) c.in_ok-x-in-Three.ensures)

pub step-returns-in_err-y-in-Three : goal.step-returns-in_err-y-in-Three
step-returns-in_err-y-in-Three t c = stopped c.from_residual-in_err-y-in-Three.ensures (three_stops_second (arrived c.requires.ready c.requires.i_bound c.expression-r.ensures c.steps_of.ensures c.in-Three.is) c.in_ok-x-in-Three.ensures c.in_err-y-in-Three.ensures)

pub step-whole-e-requires-in-Three : goal.step-whole-e-requires-in-Three
step-whole-e-requires-in-Three t c = down_whole c.decreases (three_below (arrived c.requires.ready c.requires.i_bound c.expression-r.ensures c.steps_of.ensures c.in-Three.is)).2 c.requires.i_bound (three_ready_last (arrived c.requires.ready c.requires.i_bound c.expression-r.ensures c.steps_of.ensures c.in-Three.is) c.in_ok-x-in-Three.ensures c.in_ok-y-in-Three.ensures)

pub step-three-requires : goal.step-three-requires
step-three-requires t c = three_asks (arrived c.requires.ready c.requires.i_bound c.expression-r.ensures c.steps_of.ensures c.in-Three.is) c.in_ok-x-in-Three.ensures c.in_ok-y-in-Three.ensures c.whole-e-in-Three.ensures

pub step-returns-in_ok-y-in-Three : goal.step-returns-in_ok-y-in-Three
step-returns-in_ok-y-in-Three t c = three_leaves (arrived c.requires.ready c.requires.i_bound c.expression-r.ensures c.steps_of.ensures c.in-Three.is) c.in_ok-x-in-Three.ensures c.in_ok-y-in-Three.ensures c.whole-e-in-Three.ensures c.three.ensures

-- ------------------------------------------------------------------------------------------------
-- At once, or by its operands

pub whole-unbound-requires-clause-i_bound : goal.whole-unbound-requires-clause-i_bound
whole-unbound-requires-clause-i_bound t c = unbound_asks c.args.table.now.frame.framed.is c.requires.ready c.requires.i_bound

pub whole-returns-in-Some : goal.whole-returns-in-Some
whole-returns-in-Some t c = unbound_leaves c.requires.ready c.requires.i_bound c.unbound.ensures c.in-Some.is
