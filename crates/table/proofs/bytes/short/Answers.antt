-- `bytes::short`: byte by byte. Assumes nothing.
use native.Mathlib.Omega.{arith}
use Rattle.table.proofs.NumberLaws.{number_2}
use Rattle.table.proofs.bytes.short.Goals as goal

pub returns : goal.returns
returns c = omega (arith, number_2 c.args.s.now c.args.at, c.byte-2.ensures.0, c.byte.ensures.0)
