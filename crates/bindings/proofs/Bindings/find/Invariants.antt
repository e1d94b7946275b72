-- `bindings::Bindings::find`: from the innermost binding out. Assumes nothing.
use Rattle.bindings.proofs.BoundLaws.{Searching}
use Rattle.bindings.proofs.Bindings.find.Given as goal

abbrev pub invariant-loop-i : goal.invariant-loop-i
invariant-loop-i l = Searching l.self l.x l.i
