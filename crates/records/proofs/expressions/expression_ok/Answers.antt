-- `expressions::expression_ok`: each arm is the row of its op; an op that has none is no expression. Assumes nothing.
use mathlib.Core.Path.{◌≡◌, sym, ap, ◌∙◌}
use mathlib.Core.Bool.{Bool}
use mathlib.Core.List.{List}
use Prim.Native.Nat.{ℕ}
use Rattle.base.proofs.NumberedLaws.{numbered_other}
use Rattle.table.specs.declared.Header.{Header}
use Rattle.table.specs.declared.Node.{Node}
use Rattle.table.specs.Bytes.{expression}
use Rattle.table.specs.Fields.{no_row, expression_rows, expression_row}
use Rattle.table.specs.Records.{record_ok}
use Rattle.records.proofs.RowLaws.{no_record}
use Rattle.records.proofs.expressions.expression_ok.Goals as goal

-- what holds of the record that was read holds of the table's
arm :
    (s : List ℕ) (i : ℕ) {n : Node} {r : Bool} → n ≡ expression s i → r ≡ record_ok s i (expression_row n) n
    → r ≡ record_ok s i (expression_row (expression s i)) (expression s i)
arm s i e h = h ∙ ap (λ (n : Node). record_ok s i (expression_row n) n) e

pub returns-in_default : goal.returns-in_default
unfolding expression_rows
returns-in_default c =
    let n = c.expression-n.result in
    arm c.args.frame.now.bytes.now c.args.i c.expression-n.ensures
    (sym (no_record c.args.frame.now.bytes.now c.args.i n (numbered_other (Unit {0}) no_row expression_rows n.op c.in_default.in_default-own.rest)))

pub returns-in-1 : goal.returns-in-1
returns-in-1 c =
    let count = sym (ap (λ (h : Header). h.variables) c.args.frame.now.framed.is) in
    arm c.args.frame.now.bytes.now c.args.i c.expression-n.ensures (c.var_ok.ensures c.args.frame.now.bytes.now c.args.i count)

pub returns-in-2 : goal.returns-in-2
returns-in-2 c = arm c.args.frame.now.bytes.now c.args.i c.expression-n.ensures (c.word_ok.ensures c.args.frame.now.bytes.now c.args.i)

pub returns-in-3 : goal.returns-in-3
returns-in-3 c = arm c.args.frame.now.bytes.now c.args.i c.expression-n.ensures (c.load_ok.ensures c.args.frame.now.bytes.now)

pub returns-in-4 : goal.returns-in-4
returns-in-4 c = arm c.args.frame.now.bytes.now c.args.i c.expression-n.ensures (c.store_ok.ensures c.args.frame.now.bytes.now)

pub returns-in-5 : goal.returns-in-5
returns-in-5 c = arm c.args.frame.now.bytes.now c.args.i c.expression-n.ensures (c.binary_ok.ensures c.args.frame.now.bytes.now)

pub returns-in-6 : goal.returns-in-6
returns-in-6 c = arm c.args.frame.now.bytes.now c.args.i c.expression-n.ensures (c.unary_ok.ensures c.args.frame.now.bytes.now)

pub returns-in-7 : goal.returns-in-7
returns-in-7 c = arm c.args.frame.now.bytes.now c.args.i c.expression-n.ensures (c.cast_ok.ensures c.args.frame.now.bytes.now)

pub returns-in-8 : goal.returns-in-8
returns-in-8 c = arm c.args.frame.now.bytes.now c.args.i c.expression-n.ensures c.let_ok.ensures

pub returns-in-9 : goal.returns-in-9
returns-in-9 c = arm c.args.frame.now.bytes.now c.args.i c.expression-n.ensures (c.unknown_ok.ensures c.args.frame.now.bytes.now c.args.i)

pub returns-in-10 : goal.returns-in-10
returns-in-10 c = arm c.args.frame.now.bytes.now c.args.i c.expression-n.ensures (c.ite_ok.ensures c.args.frame.now.bytes.now)

pub returns-in-11 : goal.returns-in-11
returns-in-11 c = arm c.args.frame.now.bytes.now c.args.i c.expression-n.ensures (c.extract_ok.ensures c.args.frame.now.bytes.now)

pub returns-in-12 : goal.returns-in-12
returns-in-12 c = arm c.args.frame.now.bytes.now c.args.i c.expression-n.ensures (c.concat_ok.ensures c.args.frame.now.bytes.now)
