-- `entries::Entries::all_ok`: the answer of a search over the entries. Assumes nothing.
use Rattle.std.proofs.Common.{rules}
use Rattle.starts.proofs.EntryLaws.{entries_searched}
use Rattle.starts.proofs.entries.Entries.all_ok.Goals as goal

pub returns : goal.returns
returns c = entries_searched c.args.self.now.numbers.now c.args.self.now.count c.first_fault.ensures (λ n b inside tells. search rules)
