use Rattle.std.proofs.Common.{subst, arith}
use Rattle.base.proofs.FaultLaws.{fault_at, no_fault}
use Rattle.base.proofs.first_fault.Goals as goal

pub returns-then-not-holds : goal.returns-then-not-holds
returns-then-not-holds g c =
    fault_at _ c.loop-i-test.true c.loop-i.invariant (subst (goal.F-post g c.args.holds c.loop-i.i) c.if-not-holds.true c.holds.ensures)

pub returns : goal.returns
returns g c = no_fault (λ k l. c.loop-i.invariant k (omega (arith, c.loop-i-test.false)))
