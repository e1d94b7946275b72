-- `expressions::word_ok`: field by field. Assumes nothing.
use mathlib.Core.Path.{refl, ap, ◌∙◌}
use Prim.Native.Nat.{ℕ, ◌^◌}
use lib.Dec.{ltb}
use Rattle.table.specs.Fields.{expression_rows}
use Rattle.table.specs.Records.{field_ok}
use Rattle.records.proofs.RowLaws.{by_row}
use Rattle.records.proofs.expressions.word_ok.Goals as goal

pub returns : goal.returns
unfolding expression_rows field_ok
returns c =
    let width = c.within.ensures in
    let value = c.word_value.ensures in
    let fits = c.fits.ensures in
    λ l i. by_row l i 2 c.args.n c.requires c.all.ensures refl width refl refl refl refl (fits ∙ ap (λ (x : ℕ). ltb x (2 ^ c.args.n.p)) value)
