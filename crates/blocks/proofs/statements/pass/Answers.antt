-- `statements::pass`: a turn passes one statement more; the first that breaks the rule is refused. Assumes nothing.
use Rattle.blocks.proofs.PassLaws.{passed_refused, passed_accepted}
use Rattle.blocks.proofs.statements.pass.Goals as goal

pub returns-then-not-holds : goal.returns-then-not-holds
returns-then-not-holds c = passed_refused c.args.frame.now.framed c.loop-i.invariant c.loop-i-test.true c.holds.ensures c.if-not-holds.true

pub returns : goal.returns
returns c = passed_accepted c.args.frame.now.framed c.loop-i.invariant c.loop-i-test.false
