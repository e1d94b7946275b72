-- `bytes::header`: number by number. Assumes nothing.
use Rattle.table.specs.Bytes.{header}
use Rattle.table.proofs.bytes.header.Goals as goal

pub returns : goal.returns
unfolding header
returns c =
    λ i.
    record {
      format = c.short.ensures i;
      width = c.short-2.ensures i;
      variables = c.long.ensures i;
      variablesAt = c.long-2.ensures i;
      expressions = c.long-3.ensures i;
      expressionsAt = c.long-4.ensures i;
      statements = c.long-5.ensures i;
      statementsAt = c.long-6.ensures i;
      total = c.long-7.ensures i;
    }
