-- `Frame::expression`: the frame holds the record. Assumes nothing.
use mathlib.Core.Path.{ap, ◌∙◌}
use Prim.Native.Nat.{◌+◌, ◌*◌}
use Rattle.table.specs.declared.Header.{Header}
use Rattle.table.specs.Bytes.{expression, expressions_from, node_at}
use Rattle.table.proofs.read.Frame.expression.Goals as goal

pub returns : goal.returns
unfolding expression
returns c = c.node_at.ensures ∙ ap (λ (h : Header). node_at c.args.self.now.bytes.now (expressions_from h + 16 * c.args.i)) c.args.self.now.framed.is
