-- `Frame::statement`: the frame holds the record. Assumes nothing.
use mathlib.Core.Path.{◌≡◌, ap, ◌∙◌}
use Prim.Native.Nat.{◌+◌, ◌*◌}
use Rattle.table.specs.declared.Header.{Header}
use Rattle.table.specs.Bytes.{statement as statement_of, statements_from, node_at}
use Rattle.table.proofs.read.Frame.statement.Goals as goal

pub returns : goal.returns
unfolding statement_of
returns c =
    let there : c.node_at.result ≡ node_at c.args.self.now.bytes.now (statements_from c.args.self.now.header + 16 * c.args.i) = c.node_at.ensures in
    there ∙ ap (λ (h : Header). node_at c.args.self.now.bytes.now (statements_from h + 16 * c.args.i)) c.args.self.now.framed.is
