-- `rules::numbers`: the first of the four tests that fails decides. Assumes nothing.
use Rattle.std.proofs.Common.{rules, refl}
use Rattle.running.specs.Start.{numbers_ok}
use Rattle.starts.proofs.rules.numbers.Goals as goal

pub returns : goal.returns
unfolding numbers_ok
returns c budget = let is = c.args.frame.now.framed.is in c.first_fault.ensures _ refl refl (λ place b inside tells. search rules)
