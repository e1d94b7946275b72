-- `in_body`: the invariant is that the expression asked for stands in the body of a let of x where the one reached does, the measure how
-- many expressions follow it. Assumes nothing.
use mathlib.Core.Path.{◌≡◌}
use Prim.Native.Nat.{◌≤◌, ◌<◌, ◌-◌}
use Rattle.forest.specs.Forest.{in_body_of}
use Rattle.scope.proofs.in_body.Given as goal

abbrev pub invariant-loop-m : goal.invariant-loop-m
invariant-loop-m l = (l.i ≤ l.k) × (l.k < l.frame.header.expressions) × (in_body_of l.frame.bytes.now l.x l.i ≡ in_body_of l.frame.bytes.now l.x l.k)

abbrev pub decreases-loop-m : goal.decreases-loop-m
decreases-loop-m l = l.frame.header.expressions - l.k
