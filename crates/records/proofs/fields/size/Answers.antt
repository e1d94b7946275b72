use Rattle.table.specs.Records.{field_ok}
use Rattle.records.proofs.fields.size.Goals as goal

pub returns : goal.returns
unfolding field_ok
returns c = λ s n. rw c.within.ensures
