-- `whole::first`: there is room for a first binding. Assumes nothing.
use Rattle.std.proofs.Common.{◌<◌, subst, sym}
use Rattle.evaluation.specs.Evaluation.{most_bindings}
use Rattle.bindings.specs.declared.Bindings.{Bindings}
use Rattle.evaluate.proofs.ArmLaws.{few_none}
use Rattle.evaluate.proofs.whole.first.Goals as goal

pub with-requires-clause-count_lt_most_bindings : goal.with-requires-clause-count_lt_most_bindings
with-requires-clause-count_lt_most_bindings c = subst (λ (b : Bindings). b.count < most_bindings) (sym c.none.ensures) few_none
