-- `statements::fields_ok`: an if's first body has a length. Assumes nothing.
use mathlib.Core.Path.{sym, ap, ◌∙◌}
use Rattle.blocks.proofs.StatementLaws as L
use Rattle.blocks.proofs.statements.fields_ok.Goals as goal

pub returns-in-6 : goal.returns-in-6
returns-in-6 c =
    let s = c.args.frame.now.bytes.now in
    let n = c.args.frame.now.header.expressions in
    let r = c.args.r in
    c.fields-in-6.ensures ∙ sym (L.if_row s n r) ∙ ap (L.row_holds s n r) (sym c.in-6.is) ∙ sym (L.row_is s n r)
