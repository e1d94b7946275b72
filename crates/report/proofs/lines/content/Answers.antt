-- The word of the pair's kind, and its number where it has one. Assumes nothing.
use Rattle.std.proofs.Common.{sym, subst, List, [], ◌∷◌, ◌++◌, ℕ, arith, rules}
use Rattle.base.proofs.NumberedLaws.{numbered_other}
use Rattle.report.specs.Lines.{content, field, absent_word, word_word, unknown_word, memory_word}
use Rattle.report.specs.Placed.{Puts}
use Rattle.report.proofs.PlacedLaws.{then_puts, wider}
use Rattle.report.proofs.lines.content.Goals as goal

pub returns-in-1 : goal.returns-in-1
unfolding content
returns-in-1 c = rw c.in-1.is (wider (then_puts c.add.ensures c.field.ensures) (omega arith))

pub returns-in-2 : goal.returns-in-2
unfolding content
returns-in-2 c = rw c.in-2.is (wider c.add-in-2.ensures (omega arith))

pub returns-in-3 : goal.returns-in-3
unfolding content
returns-in-3 c = rw c.in-3.is (wider (then_puts c.add-in-3.ensures c.field-in-3.ensures) (omega arith))

pub returns-in_default : goal.returns-in_default
unfolding content
returns-in_default c =
    let n = c.args.n in
    let other = numbered_other (Unit {0}) absent_word ((1, word_word ++ field n) ∷ (2, unknown_word) ∷ (3, memory_word ++ field n) ∷ []) c.args.kind (search rules) in
    subst (λ (t : List ℕ). Puts 28 c.args.out.now t c.add-in_default.new.self) (sym other) (wider c.add-in_default.ensures (omega arith))
