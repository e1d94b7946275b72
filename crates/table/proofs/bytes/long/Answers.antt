-- `bytes::long`: byte by byte. Assumes nothing.
use native.Mathlib.Omega.{arith}
use Rattle.table.proofs.NumberLaws.{number_4}
use Rattle.table.proofs.bytes.long.Goals as goal

pub returns : goal.returns
returns c =
    omega (
      arith,
      number_4 c.args.s.now c.args.at,
      c.byte-4.ensures.0,
      c.byte-3.ensures.0,
      c.byte-2.ensures.0,
      c.byte.ensures.0,
    )
