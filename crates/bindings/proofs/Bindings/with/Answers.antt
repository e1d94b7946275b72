-- `bindings::Bindings::with`: the next place of each array. Assumes nothing.
use Rattle.std.proofs.Common.{◌≡◌, refl, ap, ◌∙◌}
use Rattle.value.specs.Values.{size, type_of}
use Rattle.evaluation.specs.State.{number_of}
use Rattle.bindings.specs.Bound.{kind_held, more}
use Rattle.bindings.proofs.Bindings.with.Goals as goal

pub returns : goal.returns
unfolding more
returns c =
    let kind : c.kind_of.result ≡ kind_held c.args.v = c.kind_of.ensures in
    let width : c.size.result ≡ size (type_of c.args.v) = c.size.ensures ∙ ap size c.type_of.ensures in
    let number : c.number_of.result ≡ number_of c.args.v = c.number_of.ensures in
    rw (kind, width, number) refl
