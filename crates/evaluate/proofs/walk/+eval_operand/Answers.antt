-- `walk::eval` and `walk::operand`: each way is what its op makes of its operands in their order. Assumes nothing.
use Rattle.std.proofs.Common.{◌≡◌, ◌<◌, refl, subst, sym}
use Rattle.table.specs.declared.Header.{Header}
use Rattle.table.specs.Bytes.{expression}
use Rattle.evaluate.proofs.ArmLaws.{arrived, down, down_inside, stopped, leaf_asks, leaf_leaves, one_below, one_asks, one_leaves}
use Rattle.evaluate.proofs.ArmLaws.{two_below, two_ready, two_stops, two_asks, two_leaves}
use Rattle.evaluate.proofs.ArmLaws.{let_below, let_asks, let_ready, let_stops, let_full, let_leaves}
use Rattle.evaluate.proofs.ArmLaws.{three_below, three_ready, three_ready_last, three_stops, three_stops_second, three_asks, three_leaves}
use Rattle.evaluate.proofs.ArmLaws.{variable_asks, at_once_leaves}
use Rattle.evaluate.proofs.walk.+eval_operand.Goals as goal

-- ------------------------------------------------------------------------------------------------
-- No operand, and one

pub under-leaf-requires-clause-a_lt_variables : goal.under-leaf-requires-clause-a_lt_variables
under-leaf-requires-clause-a_lt_variables t c = subst (λ (h : Header). c.expression-r.result.op ≡ 1 → c.expression-r.result.a < h.variables) (sym c.args.table.now.frame.framed.is) (leaf_asks (arrived c.requires.ready c.requires.i_bound c.expression-r.ensures c.steps_of.ensures c.in-Leaf.is))

pub under-returns-in-Leaf : goal.under-returns-in-Leaf
under-returns-in-Leaf t c = leaf_leaves (arrived c.requires.ready c.requires.i_bound c.expression-r.ensures c.steps_of.ensures c.in-Leaf.is) c.leaf.ensures

pub under-operand-e-requires : goal.under-operand-e-requires
under-operand-e-requires t c = down c.decreases (one_below (arrived c.requires.ready c.requires.i_bound c.expression-r.ensures c.steps_of.ensures c.in-One.is)) c.requires.i_bound c.requires.ready

pub under-one-requires : goal.under-one-requires
under-one-requires t c = one_asks (arrived c.requires.ready c.requires.i_bound c.expression-r.ensures c.steps_of.ensures c.in-One.is) c.operand-e.ensures

pub under-returns-in-One : goal.under-returns-in-One
under-returns-in-One t c = one_leaves (arrived c.requires.ready c.requires.i_bound c.expression-r.ensures c.steps_of.ensures c.in-One.is) c.operand-e.ensures c.one.ensures

-- ------------------------------------------------------------------------------------------------
-- Two

pub under-operand-requires : goal.under-operand-requires
under-operand-requires t c = down c.decreases (two_below (arrived c.requires.ready c.requires.i_bound c.expression-r.ensures c.steps_of.ensures c.in-Two.is)).0 c.requires.i_bound c.requires.ready

pub under-returns-in_err-x-in-Two : goal.under-returns-in_err-x-in-Two
under-returns-in_err-x-in-Two t c = stopped c.from_residual.ensures (two_stops (arrived c.requires.ready c.requires.i_bound c.expression-r.ensures c.steps_of.ensures c.in-Two.is) c.in_err-x-in-Two.ensures)

pub under-operand-e-requires-in-Two : goal.under-operand-e-requires-in-Two
under-operand-e-requires-in-Two t c = down c.decreases (two_below (arrived c.requires.ready c.requires.i_bound c.expression-r.ensures c.steps_of.ensures c.in-Two.is)).1 c.requires.i_bound (two_ready (arrived c.requires.ready c.requires.i_bound c.expression-r.ensures c.steps_of.ensures c.in-Two.is) c.in_ok-x-in-Two.ensures)

pub under-two-requires : goal.under-two-requires
under-two-requires t c = two_asks (arrived c.requires.ready c.requires.i_bound c.expression-r.ensures c.steps_of.ensures c.in-Two.is) c.in_ok-x-in-Two.ensures c.operand-e-in-Two.ensures

pub under-returns-in_ok-x-in-Two : goal.under-returns-in_ok-x-in-Two
under-returns-in_ok-x-in-Two t c = two_leaves (arrived c.requires.ready c.requires.i_bound c.expression-r.ensures c.steps_of.ensures c.in-Two.is) c.in_ok-x-in-Two.ensures c.operand-e-in-Two.ensures c.two.ensures

-- ------------------------------------------------------------------------------------------------
-- A let

pub under-operand-requires-in-Let : goal.under-operand-requires-in-Let
under-operand-requires-in-Let t c = down c.decreases (let_below (arrived c.requires.ready c.requires.i_bound c.expression-r.ensures c.steps_of.ensures c.in-Let.is)).0 c.requires.i_bound c.requires.ready

pub under-returns-in_err-x-in-Let : goal.under-returns-in_err-x-in-Let
under-returns-in_err-x-in-Let t c = stopped c.from_residual-in_err-x-in-Let.ensures (let_stops (arrived c.requires.ready c.requires.i_bound c.expression-r.ensures c.steps_of.ensures c.in-Let.is) c.in_err-x-in-Let.ensures)

pub under-returns-then-bindings-ge-MOST_BINDINGS : goal.under-returns-then-bindings-ge-MOST_BINDINGS
under-returns-then-bindings-ge-MOST_BINDINGS t c = let_full (arrived c.requires.ready c.requires.i_bound c.expression-r.ensures c.steps_of.ensures c.in-Let.is) c.in_ok-x-in-Let.ensures c.if-bindings-ge-MOST_BINDINGS.true

pub under-inside-requires : goal.under-inside-requires
under-inside-requires t c =
    let here = (arrived c.requires.ready c.requires.i_bound c.expression-r.ensures c.steps_of.ensures c.in-Let.is) in
    let few = c.if-bindings-ge-MOST_BINDINGS.false in
    let small = let_asks here c.in_ok-x-in-Let.ensures in
    let down = down_inside c.decreases (let_below here).1 c.requires.i_bound in
    (down.0, (let_ready here c.in_ok-x-in-Let.ensures few refl, (few, (small.0, (small.1, down.1)))))

pub under-returns-else-bindings-ge-MOST_BINDINGS : goal.under-returns-else-bindings-ge-MOST_BINDINGS
under-returns-else-bindings-ge-MOST_BINDINGS t c = let_leaves (arrived c.requires.ready c.requires.i_bound c.expression-r.ensures c.steps_of.ensures c.in-Let.is) c.in_ok-x-in-Let.ensures c.if-bindings-ge-MOST_BINDINGS.false refl c.inside.ensures

-- ------------------------------------------------------------------------------------------------
-- Three

pub under-operand-requires-in-Three : goal.under-operand-requires-in-Three
under-operand-requires-in-Three t c = down c.decreases (three_below (arrived c.requires.ready c.requires.i_bound c.expression-r.ensures c.steps_of.ensures c.in-Three.is)).0 c.requires.i_bound c.requires.ready

pub under-returns-in_err-x-in-Three : goal.under-returns-in_err-x-in-Three
under-returns-in_err-x-in-Three t c = stopped c.from_residual-in_err-x-in-Three.ensures (three_stops (arrived c.requires.ready c.requires.i_bound c.expression-r.ensures c.steps_of.ensures c.in-Three.is) c.in_err-x-in-Three.ensures)

pub under-operand-requires-in-Three-2 : goal.under-operand-requires-in-Three-2
under-operand-requires-in-Three-2 t c = down c.decreases (three_below (arrived c.requires.ready c.requires.i_bound c.expression-r.ensures c.steps_of.ensures c.in-Three.is)).1 c.requires.i_bound (three_ready (arrived c.requires.ready c.requires.i_bound c.expression-r.ensures c.steps_of.ensures c.in-Three.is) c.in_ok-x-in-Three.ensures)

pub under-returns-in_err-y-in-Three : goal.under-returns-in_err-y-in-Three
under-returns-in_err-y-in-Three t c = stopped c.from_residual-in_err-y-in-Three.ensures (three_stops_second (arrived c.requires.ready c.requires.i_bound c.expression-r.ensures c.steps_of.ensures c.in-Three.is) c.in_ok-x-in-Three.ensures c.in_err-y-in-Three.ensures)

pub under-operand-e-requires-in-Three : goal.under-operand-e-requires-in-Three
under-operand-e-requires-in-Three t c =
    let ready = three_ready_last (arrived c.requires.ready c.requires.i_bound c.expression-r.ensures c.steps_of.ensures c.in-Three.is) c.in_ok-x-in-Three.ensures c.in_ok-y-in-Three.ensures in
    down c.decreases (three_below (arrived c.requires.ready c.requires.i_bound c.expression-r.ensures c.steps_of.ensures c.in-Three.is)).2 c.requires.i_bound ready

pub under-three-requires : goal.under-three-requires
under-three-requires t c = three_asks (arrived c.requires.ready c.requires.i_bound c.expression-r.ensures c.steps_of.ensures c.in-Three.is) c.in_ok-x-in-Three.ensures c.in_ok-y-in-Three.ensures c.operand-e-in-Three.ensures

pub under-returns-in_ok-y-in-Three : goal.under-returns-in_ok-y-in-Three
under-returns-in_ok-y-in-Three t c = three_leaves (arrived c.requires.ready c.requires.i_bound c.expression-r.ensures c.steps_of.ensures c.in-Three.is) c.in_ok-x-in-Three.ensures c.in_ok-y-in-Three.ensures c.operand-e-in-Three.ensures c.three.ensures

-- ------------------------------------------------------------------------------------------------
-- An operand

pub operand-at_once-requires-clause-i_bound : goal.operand-at_once-requires-clause-i_bound
operand-at_once-requires-clause-i_bound t c = subst (λ (h : Header). (expression c.args.table.now.frame.bytes.now c.args.i).op ≡ 1 → (expression c.args.table.now.frame.bytes.now c.args.i).a < h.variables) (sym c.args.table.now.frame.framed.is) (variable_asks c.requires.ready c.requires.i_bound)

pub operand-returns-in-Some : goal.operand-returns-in-Some
operand-returns-in-Some t c = at_once_leaves c.requires.ready c.requires.i_bound c.at_once.ensures c.in-Some.is
