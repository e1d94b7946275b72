-- `bindings::Bindings::find`: from the innermost binding out. Assumes nothing.
use Rattle.std.proofs.Common.{ap, ◌∙◌}
use Rattle.std.specs.Prelude.{Some}
use Rattle.bindings.proofs.BoundLaws.{search_starts, search_ends, search_on, search_fails}
use Rattle.bindings.proofs.Bindings.find.Goals as goal

pub loop-i-init : goal.loop-i-init
loop-i-init c = search_starts c.args.self.now c.args.x c.requires

pub returns-then-self-i : goal.returns-then-self-i
returns-then-self-i c =
    ap Some c.value_of.ensures ∙ search_ends c.args.self.now c.args.x c.loop-i.invariant c.loop-i-test.true c.if-self-i.true

pub loop-i-preserved : goal.loop-i-preserved
loop-i-preserved c = search_on c.args.self.now c.args.x c.loop-i.invariant c.loop-i-test.true c.if-self-i.false

pub returns : goal.returns
returns c = search_fails c.args.self.now c.args.x c.loop-i.invariant c.loop-i-test.false
