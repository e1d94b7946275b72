-- No second answer fits: the contract of each public function leaves one result. Assumes nothing.
use contract.Lifetimes.{Lfts}
use Rattle.base.specs.OneAnswer.{OneAnswer}
use Rattle.base.proofs.Unique.{is_unique}
use Rattle.records.proofs as records

pub refusals_unique : (lent : Lfts 2) →
    OneAnswer (records.variables.variables.Reads.Post lent)
    × OneAnswer (records.expressions.expressions.Reads.Post lent)
refusals_unique lent = search is_unique

pub fields_unique : (lent : Lfts 2) → OneAnswer (records.fields.variable_of.Reads.Post lent)
fields_unique lent a x y s t = is_unique
