-- The result in its cases: table or start is refused, or both are accepted. Assumes nothing.
use mathlib.Core.Path.{◌≡◌, refl, sym, ap, subst, ◌∙◌}
use mathlib.Core.List.{List}
use Prim.Native.Nat.{ℕ}
use Rattle.std.specs.Prelude.{Err}
use Rattle.base.specs.declared.Refusal.{Refusal}
use Rattle.base.specs.Refusals.{Accepted, Answer, refusal}
use Rattle.running.specs.Start.{Start}
use Rattle.running.specs.Result.{run_rules, Result, result, refused, ran}
use Rattle.running.proofs.StartLaws.{result_refused, result_ran}
use Rattle.runner.specs.declared.Outcome.{Outcome}
use Rattle.runner.specs.Given.{Gives, refused_at}

module _ (s : Start) where
  -- a refusal's outcome, the buffers as they were
  pub gives_refused :
      {a : Answer} {e : Refusal} {r : Outcome} → a ≡ refusal (run_rules s) → a ≡ Err e → r ≡ refused_at e s.count s.next
      → Gives (result s) r s.state s.log
  unfolding refused
  gives_refused {e = e} {r = r} rules given is =
      subst (λ (x : Result). Gives x r s.state s.log) (sym (result_refused s (sym rules ∙ given)))
      (record {
        ending = ap (λ (o : Outcome). o.ending) is;
        ticks = ap (λ (o : Outcome). o.ticks) is;
        count = ap (λ (o : Outcome). o.count) is;
        next = ap (λ (o : Outcome). o.next) is;
        state = refl;
        log = refl;
      })

  pub gives_result :
      {a : Answer} {r : Outcome} {σ m : List ℕ} → a ≡ refusal (run_rules s) → a ≡ Accepted → Gives (ran s) r σ m → Gives (result s) r σ m
  gives_result {r = r} {σ = σ} {m = m} rules given = subst (λ (x : Result). Gives x r σ m) (sym (result_ran s (sym rules ∙ given)))
