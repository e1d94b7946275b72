-- No second answer fits: each contract leaves one result, and one content of the state and of the log. Assumes nothing.
use mathlib.Core.Path.{◌≡◌, refl, ap₂}
use mathlib.Core.List.{List}
use Prim.Native.Nat.{ℕ}
use contract.Lifetimes.{Lfts}
use Rattle.std.specs.Prelude.{Result, Ok, Err, ⊤}
use Rattle.base.specs.declared.codes.Stop.{Stop}
use Rattle.base.specs.OneAnswer.{OneOutcome}
use Rattle.base.proofs.BoolLaws.{impossible}
use Rattle.base.proofs.Unique.{is_unique}
use Rattle.memory.proofs.Unique.{Content, content, becomes_unique}
use Rattle.running.specs.Run.{Left}
use Rattle.effect.specs.declared.Halt.{Halt}
use Rattle.effect.specs.declared.Machine.{Machine}
use Rattle.effect.specs.Leaving.{RunLeaves, ended}
use Rattle.effect.proofs as effect

-- what a machine has: the state, the log, the ticks and the next address
abbrev pub Having : Type 0
Having = (List ℕ × Content) × (ℕ × ℕ)

abbrev pub having : Machine → Having
having m = ((m.state.now, content m.log.now), (m.ticks, m.next))

-- an ending is that of one result
ended_unique : (r q : Result ⊤ Halt) → ended r ≡ ended q → r ≡ q
ended_unique (Ok u) (Ok v) e = refl
ended_unique (Ok u) (Err h) e = impossible (cc)
ended_unique (Err h) (Ok v) e = impossible (cc)
ended_unique (Err h) (Err k) e =
    let code : h.code ≡ k.code = cc in
    let statement : h.statement ≡ k.statement = cc in
    ap₂ (λ (c : Stop) (s : ℕ). Err (record { code = c; statement = s })) code statement

same_having : {σ τ : List ℕ} {b c : Content} {t u n o : ℕ} → σ ≡ τ → b ≡ c → t ≡ u → n ≡ o
    → ◌≡◌ {A = Having} ((σ, b), (t, n)) ((τ, c), (u, o))
same_having p q r s = rw (p, q, r, s) refl

pub leaves_unique : {m p q : Machine} {x : Left} {r w : Result ⊤ Halt} → RunLeaves m x r p → RunLeaves m x w q
    → (r ≡ w) × (◌≡◌ {A = Having} (having p) (having q))
leaves_unique {r = r} {w = w} g h = (
  ended_unique r w (is_unique g.is h.is),
  same_having (is_unique g.state h.state) (becomes_unique g.log h.log) (is_unique g.ticks h.ticks) (is_unique g.next h.next),
)

-- the result, and what the log's buffer holds at exit
pub test_unique : (lent : Lfts 5) → OneOutcome {X = Content} (effect.guard.test.Reads.Post lent) (λ s. content s.1.1.0.now)
test_unique lent a x y s t p q = (is_unique p.is q.is, becomes_unique p.log q.log)

pub single_unique : (lent : Lfts 6) → OneOutcome {X = Having} (effect.single.single.Reads.Post lent) (λ s. having s.1.0.now)
single_unique lent a x y s t = leaves_unique
