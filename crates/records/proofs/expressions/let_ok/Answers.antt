-- `expressions::let_ok`: field by field. Assumes nothing.
use mathlib.Core.Path.{refl}
use Rattle.table.specs.Fields.{expression_rows}
use Rattle.table.specs.Records.{field_ok}
use Rattle.records.proofs.RowLaws.{by_row}
use Rattle.records.proofs.expressions.let_ok.Goals as goal

pub returns : goal.returns
unfolding expression_rows field_ok
returns c =
    let bound = c.variable_of.ensures in
    by_row c.args.frame.now.bytes.now c.args.i 8 c.args.n c.requires c.all.ensures refl refl refl bound refl refl refl
