-- `bytes::word_value`: the number of both halves. Assumes nothing.
use mathlib.Core.Path.{refl}
use Rattle.table.proofs.bytes.word_value.Goals as goal

pub returns : goal.returns
returns c = refl
