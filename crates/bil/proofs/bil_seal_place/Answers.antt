-- `bil::bil_seal_place`: the place of the seal check's answer. Assumes nothing.
use mathlib.Core.Path.{ap, ◌∙◌}
use Rattle.base.specs.Refusals.{place_of}
use Rattle.bil.proofs.bil_seal_place.Goals as goal

pub returns : goal.returns
returns c = c.place_of.ensures ∙ ap place_of c.seal_check.ensures
