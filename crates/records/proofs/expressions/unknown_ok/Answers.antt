-- `expressions::unknown_ok`: field by field. Assumes nothing.
use mathlib.Core.Path.{refl}
use Rattle.table.specs.Fields.{expression_rows}
use Rattle.table.specs.Records.{field_ok}
use Rattle.records.proofs.RowLaws.{by_row}
use Rattle.records.proofs.expressions.unknown_ok.Goals as goal

pub returns : goal.returns
unfolding expression_rows field_ok
returns c =
    let type = c.unknown_type.ensures in
    λ l i. by_row l i 9 c.args.n c.requires c.all.ensures refl refl refl refl refl refl type
