-- No second answer fits: each contract leaves one result, and one content of the state and of the log. Assumes nothing.
use mathlib.Core.Path.{◌≡◌, ap₂}
use mathlib.Core.List.{List}
use Prim.Native.Nat.{ℕ}
use contract.Lifetimes.{Lfts}
use Rattle.base.specs.OneAnswer.{OneAnswer, OneOutcome}
use Rattle.base.proofs.Unique.{is_unique}
use Rattle.running.specs.declared.Ending.{Ending}
use Rattle.running.specs.Result.{Result}
use Rattle.runner.specs.declared.Outcome.{Outcome}
use Rattle.runner.specs.Given.{Gives}
use Rattle.runner.proofs as runner

-- the contents of the state and of the log
abbrev pub Buffers : Type 0
Buffers = List ℕ × List ℕ

same_buffers : {σ τ m n : List ℕ} → σ ≡ τ → m ≡ n → ◌≡◌ {A = Buffers} (σ, m) (τ, n)
same_buffers = ap₂ (λ (σ m : List ℕ). (σ, m))

abbrev outcome : Ending → ℕ → ℕ → ℕ → Outcome
outcome ending ticks count next = record { ending = ending; ticks = ticks; count = count; next = next }

same : {e f : Ending} {t u c d n o : ℕ} → e ≡ f → t ≡ u → c ≡ d → n ≡ o → outcome e t c n ≡ outcome f u d o
same p q r s = rw (p, q, r, s)

pub gives_unique : {x : Result} {r q : Outcome} {σ τ m n : List ℕ} → Gives x r σ m → Gives x q τ n
    → (r ≡ q) × (◌≡◌ {A = Buffers} (σ, m) (τ, n))
gives_unique g h = (
  same (is_unique g.ending h.ending) (is_unique g.ticks h.ticks) (is_unique g.count h.count) (is_unique g.next h.next),
  same_buffers (is_unique g.state h.state) (is_unique g.log h.log),
)

pub numbers_unique : OneAnswer (runner.numbers.code_of.Reads.Post tt) × OneAnswer (runner.numbers.place_of.Reads.Post tt)
numbers_unique = search is_unique

pub run_unique : (lent : Lfts 3) → OneOutcome {X = Buffers} (runner.entry.run.Reads.Post lent) (λ s. (s.1.0.now, s.1.1.0.now))
run_unique lent a x y s t = gives_unique

-- by the first of its promises
pub run_accepted_unique : (lent : Lfts 3) → OneOutcome {X = Buffers} (runner.accepted.run_accepted.Reads.Post lent) (λ s. (s.1.0.now, s.1.1.0.now))
run_accepted_unique lent a x y s t p q = gives_unique p.0 q.0
