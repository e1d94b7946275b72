-- `bodies::owner_of`: the statement below n holds i, or the search goes on at its owner. Assumes nothing.
use native.Mathlib.Omega.{arith}
use Rattle.blocks.proofs.OwnerLaws.{climbed_here, climbed_on, climbed_out}
use Rattle.blocks.proofs.bodies.owner_of.Goals as goal

pub returns-then-i-end : goal.returns-then-i-end
returns-then-i-end c =
    climbed_here c.loop-j.invariant c.in-Some.j (omega (arith, c.in-Some.ensures)) (omega (arith, c.if-i-end.true, c.second_end-end.ensures))

pub loop-j-smaller : goal.loop-j-smaller
loop-j-smaller c =
    (climbed_on c.loop-j.invariant c.in-Some.j c.requires.known (omega (arith, c.in-Some.ensures))
    (omega (arith, c.if-i-end.false, c.second_end-end.ensures))).0

pub loop-j-preserved : goal.loop-j-preserved
loop-j-preserved c =
    (climbed_on c.loop-j.invariant c.in-Some.j c.requires.known (omega (arith, c.in-Some.ensures))
    (omega (arith, c.if-i-end.false, c.second_end-end.ensures))).1

pub returns : goal.returns
returns c = climbed_out c.loop-j.invariant (grind arith)
