use Rattle.table.specs.Records.{variable_ok}
use Rattle.records.proofs.variables.variable_ok.Goals as goal

pub returns : goal.returns
unfolding variable_ok
returns c = rw c.type_ok.ensures
