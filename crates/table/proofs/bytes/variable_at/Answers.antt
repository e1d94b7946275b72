-- `bytes::variable_at`: field by field. Assumes nothing.
use mathlib.Core.Path.{◌≡◌, ap}
use Prim.Native.Nat.{ℕ, ◌+◌, ◌*◌}
use native.Mathlib.Omega.{arith}
use lib.ListN.{get_or}
use Rattle.table.specs.Bytes.{variable_at, number}
use Rattle.table.proofs.NumberLaws.{number_3}
use Rattle.table.proofs.bytes.variable_at.Goals as goal

pub returns : goal.returns
unfolding variable_at
returns c =
    let l = c.args.s.now in
    let at = c.args.at in
    let six : at + 5 + 1 ≡ at + 6 = omega arith in
    let seven : at + 5 + 2 ≡ at + 7 = omega arith in
    let spare : c.byte-6.result + 256 * c.byte-7.result + 65536 * c.byte-8.result ≡ number 3 l (at + 5) =
    omega (
      arith,
      number_3 l (at + 5),
      ap (λ (k : ℕ). get_or l k 0) six,
      ap (λ (k : ℕ). get_or l k 0) seven,
      c.byte-8.ensures.0,
      c.byte-7.ensures.0,
      c.byte-6.ensures.0,
    )
    in
    λ i.
    record {
      kind = c.byte.ensures.0 i;
      label = c.byte-2.ensures.0 i;
      width = c.byte-3.ensures.0 i;
      addressWidth = c.byte-4.ensures.0 i;
      role = c.byte-5.ensures.0 i;
      spare = spare i;
    }
