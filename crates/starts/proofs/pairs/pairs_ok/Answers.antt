-- `pairs::pairs_ok`: the answer of a search over the variables. Assumes nothing.
use Rattle.std.proofs.Common.{◌≡◌, ◌∙◌, rules, arith}
use Rattle.base.specs.Refusals.{Answer}
use Rattle.starts.specs.Held.{held}
use Rattle.starts.proofs.PairLaws.{pairs_searched}
use Rattle.starts.proofs.pairs.pairs_ok.Goals as goal

-- what is told is the search's answer
as_told : {a b r : Answer} → a ≡ b → r ≡ a → r ≡ b
as_told p q = q ∙ p

pub returns : goal.returns
returns c =
    as_told
    (pairs_searched c.args.frame.now.bytes.now c.args.state.now (held c.args.log.now) c.args.frame.now.framed c.first_fault.ensures
    (λ x b inside tells. search rules)) (grind arith)
