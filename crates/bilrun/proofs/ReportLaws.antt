-- The parts of the text, from what the calls promise. Assumes nothing.
use Rattle.std.proofs.Common.{◌≡◌, sym, ap, ap₂, subst, ◌∙◌, List, [], ◌++◌, append-nil, ℕ, ◌*◌, replicate, Ok, Err}
use Rattle.base.specs.Refusals.{Accepted, Answer}
use Rattle.base.specs.declared.Refusal.{Refusal}
use Rattle.base.specs.Refusals as Refusals
use Rattle.table.specs.declared.Header.{Header}
use Rattle.table.specs.Bytes.{header}
use Rattle.typing.specs.Verdict.{check}
use Rattle.sealing.specs.Verdict.{seal_check}
use Rattle.memory.specs.Log.{entry_size}
use Rattle.running.specs.Result.{Result, result, code_of, place_of}
use Rattle.starts.specs.Lent.{lent}
use Rattle.runner.specs.declared.Outcome.{Outcome}
use Rattle.runner.specs.Given.{Gives}
use Rattle.report.specs.Lines.{answer_line, run_line, variable_lines, verdict_word, seal_word}
use Rattle.bilrun.specs.Report.{entries, started, ran, accepted, report}

-- the start of bilrun is what is lent
pub gives_started : (s σ m : List ℕ) {σ₁ m₁ : List ℕ} {h : Header} {o : Outcome} → h ≡ header s → σ ≡ replicate (2 * h.variables) 0 → m ≡ replicate (entry_size * entries) 0
    → Gives (result (lent s σ m 0 0 10000)) o σ₁ m₁ → Gives (result (started s)) o σ₁ m₁
unfolding started
gives_started s σ m {σ₁} {m₁} {h} {o} framed state log g =
    subst (λ (x : Result). Gives x o σ₁ m₁)
    (ap₂ (λ (x y : List ℕ). result (lent s x y 0 0 10000)) (state ∙ ap (λ (k : Header). replicate (2 * k.variables) 0) framed) log) g

-- the run's lines, by the numbers that the run gave and the state that it left
pub ran_text : (s : List ℕ) {σ m : List ℕ} {h : Header} {o : Outcome} {x : Result} {code place : ℕ} → h ≡ header s → Gives x o σ m
    → code ≡ code_of o.ending → place ≡ place_of o.ending
    → run_line code place o.ticks o.count o.next ++ variable_lines s σ h.variables ≡ ran s x
unfolding ran
ran_text s {σ} {m} {h} {o} {x} framed g c p =
    ap₂ ◌++◌
    (ap₂ (λ (a b : ℕ). run_line a b o.ticks o.count o.next) (c ∙ ap code_of g.ending) (p ∙ ap place_of g.ending)
    ∙ ap₂ (λ (t n : ℕ). run_line (code_of x.ending) (place_of x.ending) t n o.next) g.ticks g.count
    ∙ ap (run_line (code_of x.ending) (place_of x.ending) x.ticks x.count) g.next)
    (ap₂ (λ (y : List ℕ) (k : Header). variable_lines s y k.variables) g.state framed)

-- a line of an answer
pub answer_text : (word : List ℕ) {a b : Answer} {code place : ℕ} → a ≡ b → code ≡ Refusals.code_of a → place ≡ Refusals.place_of a
    → answer_line word code place ≡ answer_line word (Refusals.code_of b) (Refusals.place_of b)
answer_text word e c p = ap₂ (answer_line word) (c ∙ ap Refusals.code_of e) (p ∙ ap Refusals.place_of e)

pub accepted_text : (s : List ℕ) {seal : List ℕ} → seal ≡ answer_line seal_word (Refusals.code_of (seal_check s)) (Refusals.place_of (seal_check s))
    → seal ++ ran s (result (started s)) ≡ accepted s
unfolding accepted
accepted_text s e = ap (λ (l : List ℕ). l ++ ran s (result (started s))) e

-- the text of an accepted table, and of a refused one
pub report_accepted : (s : List ℕ) {line : List ℕ} → line ≡ answer_line verdict_word (Refusals.code_of (check s)) (Refusals.place_of (check s)) → check s ≡ Accepted
    → line ++ accepted s ≡ report s
unfolding report
report_accepted s e h =
    ap₂ (λ (l : List ℕ) (a : Answer). l ++ elim a [ Ok _ ↦ accepted s | Err _ ↦ [] ]) e (sym h)

pub report_refused : (s : List ℕ) {line : List ℕ} {e : Refusal} → line ≡ answer_line verdict_word (Refusals.code_of (check s)) (Refusals.place_of (check s))
    → check s ≡ Err e → line ≡ report s
unfolding report
report_refused s {line} e h =
    sym (append-nil line) ∙ ap₂ (λ (l : List ℕ) (a : Answer). l ++ elim a [ Ok _ ↦ accepted s | Err _ ↦ [] ]) e (sym h)
