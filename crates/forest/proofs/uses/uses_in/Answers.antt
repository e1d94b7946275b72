-- `uses::uses_in`: the counters count every use, and the lowest that is not 1 is where refusal 8 comes. Assumes nothing.
use mathlib.Core.Path.{◌≡◌, refl, ◌∙◌}
use native.Mathlib.Omega.{arith}
use Rattle.std.proofs.Common.{rules}
use Rattle.forest.specs.Counting.{listed, count_rule}
use Rattle.forest.specs.Forest.{operands_of, expressions_of}
use Rattle.forest.proofs.CountLaws.{counted_refusal}
use Rattle.forest.proofs.OperandLaws.{operands_below, expressions_below}
use Rattle.forest.proofs.uses.uses_in.Goals as goal

pub count-requires-clause-all_below : goal.count-requires-clause-all_below
unfolding operands_of
count-requires-clause-all_below c =
    λ i o l k.
    let named : listed o ≡ operands_of c.args.table.now.frame.bytes.now i = search rules in
    operands_below c.args.table.now.frame.framed c.args.table.now.records i named c.requires.expressions_in_bounds l

pub count-requires-2-clause-all_below : goal.count-requires-2-clause-all_below
unfolding expressions_of
count-requires-2-clause-all_below c =
    λ i o l k.
    let named : listed o ≡ expressions_of c.args.table.now.frame.bytes.now i = search rules in
    expressions_below c.args.table.now.frame.framed c.args.table.now.records i named (omega (arith, c.count.auto.counts)) l

pub returns : goal.returns
unfolding operands_of expressions_of
returns c =
    c.first_fault.ensures (count_rule c.count-2.new.counts c.args.table.now.frame.header.expressions) refl refl (λ i b l k. search rules)
    ∙ counted_refusal c.args.table.now.frame.bytes.now c.args.table.now.frame.header c.args.table.now.frame.framed.is c.requires.counters
    (c.count.ensures.all (operands_of c.args.table.now.frame.bytes.now) (λ i o l k. search rules))
    (c.count-2.ensures.all (expressions_of c.args.table.now.frame.bytes.now) (λ i o l k. search rules))
