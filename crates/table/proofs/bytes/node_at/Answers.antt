-- `bytes::node_at`: field by field. Assumes nothing.
use Rattle.table.specs.Bytes.{node_at}
use Rattle.table.proofs.bytes.node_at.Goals as goal

pub returns : goal.returns
unfolding node_at
returns c =
    λ i.
    record {
      op = c.byte.ensures.0 i;
      sub = c.byte-2.ensures.0 i;
      p = c.byte-3.ensures.0 i;
      q = c.byte-4.ensures.0 i;
      a = c.long.ensures i;
      b = c.long-2.ensures i;
      c = c.long-3.ensures i;
    }
