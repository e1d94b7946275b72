-- `single::value_of`: what the evaluation gave. Assumes nothing.
use Rattle.std.proofs.Common.{◌≡◌, refl, rules}
use Rattle.effect.specs.Leaving.{at_statement}
use Rattle.effect.proofs.LeavingLaws.{ready, value_leaves}
use Rattle.effect.proofs.single.value_of.Goals as goal

pub whole-requires-clause-ready : goal.whole-requires-clause-ready
whole-requires-clause-ready c = ready c.requires.running

pub returns : goal.returns
returns c =
    let is : c.map_err.result ≡ at_statement c.args.i c.whole.result = search rules in
    value_leaves c.args.table.now.frame.bytes.now c.args.e c.whole.ensures is refl refl refl refl refl
