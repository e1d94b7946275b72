-- What is so of a start where refusal 16 does not come. Assumes nothing.
use Rattle.std.proofs.Common.{◌≡◌, sym, ◌∙◌, [], ◌∷◌}
use Rattle.base.specs.Refusals.{Answer, Accepted, refusal}
use Rattle.base.proofs.RefusalLaws.{accepted_iff, first_holds}
use Rattle.running.specs.Start.{Start, numbers_rule}
use Rattle.running.proofs.StartKeeps.{Numbers, numbers_of}

pub numbers_accepted : (s : Start) {r : Answer} → r ≡ refusal (numbers_rule s ∷ []) → r ≡ Accepted → Numbers s
numbers_accepted s is given = numbers_of s (first_holds ((accepted_iff (numbers_rule s ∷ [])).0 (sym is ∙ given)))
