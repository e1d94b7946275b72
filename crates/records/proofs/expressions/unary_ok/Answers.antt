-- `expressions::unary_ok`: field by field. Assumes nothing.
use mathlib.Core.Path.{refl}
use Rattle.table.specs.Fields.{expression_rows}
use Rattle.table.specs.Records.{field_ok}
use Rattle.records.proofs.RowLaws.{by_row}
use Rattle.records.proofs.expressions.unary_ok.Goals as goal

pub returns : goal.returns
unfolding expression_rows field_ok
returns c =
    let sub = c.within.ensures in
    λ l. by_row l c.args.i 6 c.args.n c.requires c.all.ensures sub refl refl refl refl refl refl
