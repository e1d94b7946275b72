-- `in_body`: from the expression reached the climb goes on to the nearest let in whose body it stands. Assumes nothing.
use native.Mathlib.Omega.{arith}
use Rattle.scope.proofs.NearestLaws.{leads}
use Rattle.scope.proofs.in_body.Goals as goal

pub expression-requires : goal.expression-requires
expression-requires c =
    let l = c.loop-m in
    let on = leads c.args.frame.now.framed c.requires.nearest_from l.invariant.0 l.invariant.1 (λ e. omega (arith, c.in-Some.ensures)) in
    omega (arith, on.0, c.in-Some.ensures)
