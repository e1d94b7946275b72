-- The three demands hold of every library that gives what the rules give to whatever is lent, and of no other: the first two leave one
-- answer to each table and one result to each start. Assumes nothing.
use mathlib.Core.Path.{◌≡◌, refl, sym, ap, subst, ◌∙◌}
use mathlib.Core.List.{List, ◌++◌}
use mathlib.Core.Logic.{◌↔◌}
use Prim.Native.Nat.{ℕ}
use Rattle.std.specs.Prelude.{Ok, Err}
use Rattle.base.specs.Refusals.{Accepted, Refused, Answer, FirstFault, refusal}
use Rattle.base.proofs.RefusalLaws.{refused_iff}
use Rattle.table.specs.Decode.{context}
use Rattle.table.proofs.ExpressionLaws.{expr_view}
use Rattle.typing.specs.Verdict.{check_rules, check}
use Rattle.typing.proofs.TypingLaws.{decides, unique}
use Rattle.sealing.specs.Sealing.{SealHolds}
use Rattle.sealing.specs.Verdict.{seal_rules, seal_check}
use Rattle.sealing.proofs.PlaceLaws.{breaks_first}
use Rattle.sealing.proofs.SealLaws.{label_decides}
use Rattle.memory.specs.Log.{entries}
use Rattle.memory.specs.Typed.{Has}
use Rattle.evaluation.specs.State.{in_state}
use Rattle.running.specs.declared.Ending.TheVariants as Endings
use Rattle.running.specs.Start.{Start}
use Rattle.running.specs.Result.{run_rules, Accepts, Result, result, next_start}
use Rattle.running.proofs.StartLaws.{start_rules-hold, result_refused, result_ran}
use Rattle.running.proofs.StartKeeps.{types_kept}
use Rattle.running.proofs.AcceptedLaws.{checked, table_ok, next_accepts}
use Rattle.secrecy.specs.Agreement.{SameResult}
use Rattle.secrecy.proofs.Demand3.{demand_3_over_rules}
use Rattle.demands.proofs.NumberLaws.{check_told, seal_told, run_told, check_gives_none, seal_gives_none, run_gives_none}
use Rattle.demands.specs.Demands.{Library, rules, Demand1, RulesHold, TypesKept, Demand2, Decided, Demand3}
use Rattle.demands.proofs.RuleLaws.{result_refused_iff, check_iff, seal_iff, starts_iff}

-- a library gives what the rules give, and nothing else
pub record Gives (l : Library) : Type 0 where
  pub check : {s : List ℕ} {r : Answer} → l.check s r → r ≡ check s
  pub seal : {s : List ℕ} {r : Answer} → l.seal s r → r ≡ seal_check s
  pub run : {s : Start} {r : Result} → l.run s r → r ≡ result s

-- it gives that to whatever is lent
pub record Takes (l : Library) : Type 0 where
  pub check : (s : List ℕ) → l.check s (check s)
  pub seal : (s : List ℕ) → l.seal s (seal_check s)
  pub run : (s : Start) → l.run s (result s)

-- ------------------------------------------------------------------------------------------------
-- The demands, of every library that gives what the rules give

module _ (l : Library) (g : Gives l) where
  pub demand_1 : Takes l → Demand1 l
  unfolding check seal_check
  demand_1 takes =
      record {
        checks = λ s. (check s, takes.check s);
        seals = λ s. (seal_check s, takes.seal s);
        runs = λ s. (result s, takes.run s);
        check = λ s r given code place.
            subst (λ (x : Answer). (x ≡ Refused code place) ↔ FirstFault (check_rules s) code place) (sym (g.check given)) (refused_iff (check_rules s) code place);
        seal = λ s r given code place.
            subst (λ (x : Answer). (x ≡ Refused code place) ↔ FirstFault (check_rules s ++ seal_rules s) code place) (sym (g.seal given))
            (refused_iff (check_rules s ++ seal_rules s) code place);
        run = λ s r given e.
            subst (λ (x : Result). (x.ending ≡ Endings.Refused e) ↔ FirstFault (run_rules s) e.code e.place) (sym (g.run given)) (result_refused_iff s e);
        unchanged = λ s r given e named.
            let fault = (result_refused_iff s e).0 (sym (ap (λ (x : Result). x.ending) (g.run given)) ∙ named) in
            g.run given ∙ result_refused s ((refused_iff (run_rules s) e.code e.place).1 fault);
      }

  types_keep : TypesKept l
  unfolding next_start
  types_keep s r given a x h =
      subst (λ (q : Result). Has (entries q.log q.count) (in_state q.state ((context s.table).type x) x) ((context s.table).type x))
      (sym (g.run given ∙ result_ran s a)) (types_kept s (checked (table_ok s a)) (start_rules-hold s a) 0 x h)

  pub demand_2 : Demand2 l
  unfolding next_start
  demand_2 =
      record {
        verdict = λ s r given. subst (λ (x : Answer). (x ≡ Accepted) ↔ RulesHold s) (sym (g.check given)) (check_iff s);
        seal = λ s r given. subst (λ (x : Answer). (x ≡ Accepted) ↔ (RulesHold s × SealHolds s)) (sym (g.seal given)) (seal_iff s);
        run = λ s r given a. g.run given ∙ result_ran s a;
        types = types_keep;
        again = λ s r given a budget. subst (λ (x : Result). Accepts (next_start s x budget)) (sym (g.run given ∙ result_ran s a)) (next_accepts s a budget);
      }

  pub demand_3 : Demand3 l
  demand_3 s t r q clean agreeing given given' =
      let same = demand_3_over_rules s t agreeing ((seal_iff s.table).0 (sym (g.seal clean))).1.program in
      subst (λ (x : Result). SameResult s.table x q) (sym (g.run given))
      (subst (λ (y : Result). SameResult s.table (result s) y) (sym (g.run given')) same)

-- ------------------------------------------------------------------------------------------------
-- And of no other: no second answer fits

pub determined : (l : Library) → Demand1 l → Demand2 l → Gives l × Takes l
unfolding check seal_check
determined l one two = (
  record {
    check = λ {s} {r} given. verdict s r given;
    seal = λ {s} {r} given. sealed s r given;
    run = λ {s} {r} given. ends s r given (refusal (run_rules s)) refl;
  },
  record {
    check = λ s. let (r, given) = one.checks s in subst (l.check s) (verdict s r given) given;
    seal = λ s. let (r, given) = one.seals s in subst (l.seal s) (sealed s r given) given;
    run = λ s. let (r, given) = one.runs s in subst (l.run s) (ends s r given (refusal (run_rules s)) refl) given;
  },
)
  where
    verdict : (s : List ℕ) (r : Answer) → l.check s r → r ≡ check s
    verdict s (Ok accepted) given = sym ((check_iff s).1 ((two.verdict s _ given).0 refl))
    verdict s (Err e) given = sym ((refused_iff (check_rules s) e.code e.place).1 ((one.check s (Err e) given e.code e.place).0 refl))

    sealed : (s : List ℕ) (r : Answer) → l.seal s r → r ≡ seal_check s
    sealed s (Ok accepted) given = sym ((seal_iff s).1 ((two.seal s _ given).0 refl))
    sealed s (Err e) given =
        sym ((refused_iff (check_rules s ++ seal_rules s) e.code e.place).1 ((one.seal s (Err e) given e.code e.place).0 refl))

    ends : (s : Start) (r : Result) → l.run s r → (a : Answer) → refusal (run_rules s) ≡ a → r ≡ result s
    ends s r given (Ok accepted) e = two.run s r given e ∙ sym (result_ran s e)
    ends s r given (Err x) e =
        let named = (one.run s r given x).1 ((refused_iff (run_rules s) x.code x.place).0 e) in
        one.unchanged s r given x named ∙ sym (result_refused s e)

-- ------------------------------------------------------------------------------------------------
-- The rules themselves, and what the words rest on

pub rules_give : Gives rules
rules_give = record { check = λ e. e; seal = λ e. e; run = λ e. e }

pub rules_take : Takes rules
rules_take = record { check = λ s. refl; seal = λ s. refl; run = λ s. refl }

pub decided : Decided
decided =
    record {
      starts = starts_iff;
      answers = check_told;
      seal_answers = seal_told;
      endings = run_told;
      no_check = check_gives_none;
      no_seal = seal_gives_none;
      no_run = run_gives_none;
      types = λ Γ e t. decides;
      one_type = λ Γ e t u. unique;
      labels = λ Γ e l. label_decides;
      broken = λ s hold. breaks_first s (expr_view hold);
    }
