-- The bytes of the part that was written stand there, and nothing else changed. Assumes nothing.
use Rattle.std.proofs.Common.{refl, ap, ◌∙◌, ◌+◌, ◌-◌, ◌≤◌, arith, length, rules}
use lib.Seq.{length-sets}
use Rattle.report.proofs.PlacedLaws.{put_sets}
use Rattle.report.proofs.text.Text.add.Goals as goal

pub returns : goal.returns
returns c =
    let l = c.args.self.now.buffer.now in
    let at = c.args.self.now.end in
    let n = length c.args.bytes.now in
    let near : at + n ≤ at + n = omega arith in
    let is = put_sets l c.args.bytes.now at (at + n - at) c.requires (omega arith) (search rules) in
    record {
      is = is;
      end = refl;
      near = near;
      same_length = ap length is ∙ length-sets l at c.args.bytes.now;
      same_buffer = refl;
    }
