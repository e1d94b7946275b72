-- `single::single`: any other op is a cpuexn or a special. Assumes nothing.
use Rattle.effect.proofs.SingleLaws.{passes}
use Rattle.effect.proofs.single.single.Goals as goal

pub returns-in_default : goal.returns-in_default
returns-in_default c =
    let p = c.requires in
    passes p.running p.standing p.r_value c.in_default.in_default-own.rest.0.1 c.in_default.in_default-own.rest.1 p.fact.0 p.fact.1
