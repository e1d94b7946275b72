-- No second answer fits: the contract of each exported function leaves one result, and the run's one content of each buffer. Assumes nothing.
use mathlib.Core.Path.{ap}
use mathlib.Core.List.{List}
use Prim.Native.Nat.{ℕ}
use contract.Lifetimes.{Lfts}
use Rattle.base.specs.OneAnswer.{OneAnswer, OneOutcome}
use Rattle.base.proofs.Unique.{is_unique}
use Rattle.bil.specs.RunCall.{Left}
use Rattle.bil.proofs as bil

pub words_unique : OneAnswer (bil.bil_word_kind.Reads.Post tt) × OneAnswer (bil.bil_word_value.Reads.Post tt)
words_unique = search is_unique

pub checks_unique : (lent : Lfts 1) →
    OneAnswer (bil.bil_check_code.Reads.Post lent)
    × OneAnswer (bil.bil_check_place.Reads.Post lent)
    × OneAnswer (bil.bil_seal_code.Reads.Post lent)
    × OneAnswer (bil.bil_seal_place.Reads.Post lent)
checks_unique lent = search is_unique

-- the contents of the state, of the log and of the five numbers
abbrev Buffers : Type 0
Buffers = List ℕ × List ℕ × List ℕ

pub run_unique : (lent : Lfts 4) →
    OneOutcome {X = Buffers} (bil.bil_run.Reads.Post lent) (λ s. (s.1.0.now, s.1.1.0.now, s.1.1.1.1.1.1.0.now))
run_unique lent a x y s t p q =
    let e = is_unique p q in
    (ap (λ (l : Left). l.answer) e, ap {B = Buffers} (λ (l : Left). (l.state, l.log, l.out)) e)
