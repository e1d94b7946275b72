-- `expressions::var_ok`: field by field, over the count of variables. Assumes nothing.
use mathlib.Core.Path.{◌≡◌, refl, sym, ap}
use mathlib.Core.Bool.{true, ◌&&◌}
use Prim.Native.Nat.{ℕ}
use lib.Dec.{ltb, eqb}
use Rattle.table.specs.Fields.{expression_rows}
use Rattle.table.specs.Records.{field_ok}
use Rattle.records.proofs.RowLaws.{by_row}
use Rattle.records.proofs.expressions.var_ok.Goals as goal

pub returns : goal.returns
unfolding expression_rows field_ok
returns c =
    let n = c.args.n in
    let tested : c.all.result
    ≡ (eqb n.sub 0 && (eqb n.p 0 && (eqb n.q 0 && (ltb n.a c.args.variables && (eqb n.b 0 && (eqb n.c 0 && true)))))) =
    c.all.ensures
    in
    λ l i count. by_row l i 1 n c.requires tested refl refl refl (ap (λ (v : ℕ). ltb n.a v) (sym count)) refl refl refl
