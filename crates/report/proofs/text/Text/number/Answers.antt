-- The digits that hold the number, put as a text. Assumes nothing.
use Rattle.std.proofs.Common.{◌≡◌, ◌∙◌, subst, List, ℕ, ◌≤◌, arith, take}
use Rattle.report.specs.Lines.{decimal}
use Rattle.report.specs.Placed.{Puts}
use Rattle.report.proofs.PlacedLaws.{wider}
use Rattle.report.proofs.DecimalLaws.{few_digits, decimal_is}
use Rattle.report.proofs.text.Text.number.Goals as goal

pub returns : goal.returns
returns c =
    let d = c.decimal-k in
    let few : d.result ≤ 20 = few_digits d.result c.args.n (omega arith) d.ensures.len in
    let counted = d.ensures.in_bounds in
    let text : take d.result d.new.out ≡ decimal c.args.n = d.ensures.digits ∙ decimal_is d.result c.args.n few d.ensures.len in
    subst (λ (t : List ℕ). Puts 20 c.args.self.now t c.add.new.self) text (wider c.add.ensures (omega arith))
