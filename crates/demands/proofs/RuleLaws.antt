-- What the rules accept and refuse, as the demands say it. Assumes nothing.
use mathlib.Core.Path.{◌≡◌, refl, sym, ap, ◌∙◌}
use mathlib.Core.List.{List, ◌++◌}
use mathlib.Core.Logic.{◌↔◌}
use Prim.Native.Nat.{ℕ}
use Rattle.std.specs.Prelude.{Ok, Err}
use Rattle.base.specs.declared.Refusal.{Refusal}
use Rattle.base.specs.Refusals.{Accepted, Answer, AllHold, FirstFault, refusal, no_rule, one_more}
use Rattle.base.proofs.BoolLaws.{impossible}
use Rattle.base.proofs.RefusalLaws.{accepted_iff, refused_iff, all_hold_append}
use Rattle.table.specs.Bytes.{header}
use Rattle.table.specs.Records.{header_rules, record_rules}
use Rattle.table.specs.Decode.{program}
use Rattle.table.proofs.View.{Reads}
use Rattle.table.proofs.Program.{program_reads}
use Rattle.typing.specs.Verdict.{check_rules, check}
use Rattle.sealing.specs.Sealing.{SealHolds}
use Rattle.sealing.specs.Verdict.{seal_rules, seal_check}
use Rattle.sealing.proofs.SealLaws.{seal_rules-iff}
use Rattle.running.specs.declared.Ending.{Ending}
use Rattle.running.specs.declared.Ending.TheVariants as Endings
use Rattle.running.specs.Start.{Start, start_rules}
use Rattle.running.specs.Result.{run_rules, Accepts, Result, refused, ran, finished, result}
use Rattle.running.proofs.RunKeeps.{EndsBy, by_done, by_stop}
use Rattle.running.proofs.StartLaws.{start_rules-hold, result_refused, result_ran}
use Rattle.running.proofs.StartKeeps.{start_ok_iff, start_keeps}
use Rattle.running.proofs.AcceptedLaws.{records_of, table_ok_iff, checked, table_ok}
use Rattle.demands.specs.Demands.{RulesHold}

-- a run that was begun ends otherwise
ran_not_refused : (s : Start) → Accepts s → {e : Refusal} → (ran s).ending ≡ Endings.Refused e → ⊥
unfolding ran finished
ran_not_refused s a {e = r} = go (start_keeps s (checked (table_ok s a)) ((start_ok_iff s).0 (start_rules-hold s a))).ends
  where
    go : {e : Ending} → EndsBy e → e ≡ Endings.Refused r → ⊥
    go by_done e = impossible (cc)
    go by_stop e = impossible (cc)

pub result_refused_iff : (s : Start) (r : Refusal) → ((result s).ending ≡ Endings.Refused r) ↔ FirstFault (run_rules s) r.code r.place
unfolding refused
result_refused_iff s r = (to (refusal (run_rules s)) refl, λ f. ap (λ (r : Result). r.ending) (result_refused s ((refused_iff (run_rules s) r.code r.place).1 f)))
  where
    to : (a : Answer) → refusal (run_rules s) ≡ a → (result s).ending ≡ Endings.Refused r → FirstFault (run_rules s) r.code r.place
    to (Ok accepted) e named = absurd (ran_not_refused s e (sym (ap (λ (r : Result). r.ending) (result_ran s e)) ∙ named))
    to (Err x) e named =
        let same : Endings.Refused x ≡ Endings.Refused r = sym (ap (λ (r : Result). r.ending) (result_refused s e)) ∙ named in
        (refused_iff (run_rules s) r.code r.place).0 (cc)

-- refusals 14 and 15
seal_rules-hold : (s : List ℕ) → AllHold (header_rules s ++ record_rules s) → AllHold (seal_rules s) ↔ SealHolds s
unfolding seal_rules
seal_rules-hold s h = (to, λ t. let p = (seal_rules-iff reads).1 t in one_more p.0 (one_more p.1 no_rule))
  where
    reads : Reads s 0 (header s).statements (program s)
    reads = program_reads (records_of h)

    to : AllHold (seal_rules s) → SealHolds s
    to (one_more e (one_more k no_rule)) = (seal_rules-iff reads).0 (e, k)

-- refusals 1 to 13
check_rules-iff : (s : List ℕ) → AllHold (check_rules s) ↔ RulesHold s
check_rules-iff s = (
  λ a. let h = (table_ok_iff s).0 a in record { records = h.read; forest = h.forest; types = h.types },
  λ h. (table_ok_iff s).1 (record { read = h.records; forest = h.forest; types = h.types }),
)

pub check_iff : (s : List ℕ) → (check s ≡ Accepted) ↔ RulesHold s
unfolding check
check_iff s = (λ e. (check_rules-iff s).0 ((accepted_iff (check_rules s)).0 e), λ h. (accepted_iff (check_rules s)).1 ((check_rules-iff s).1 h))

pub seal_iff : (s : List ℕ) → (seal_check s ≡ Accepted) ↔ (RulesHold s × SealHolds s)
unfolding seal_check
seal_iff s = (
  λ e.
      let h = (all_hold_append (check_rules s) (seal_rules s)).0 ((accepted_iff (check_rules s ++ seal_rules s)).0 e) in
      let r = (check_rules-iff s).0 h.0 in
      (r, (seal_rules-hold s r.records).0 h.1),
  λ h.
      (accepted_iff (check_rules s ++ seal_rules s)).1
      ((all_hold_append (check_rules s) (seal_rules s)).1 ((check_rules-iff s).1 h.0, (seal_rules-hold s h.0.records).1 h.1)),
)

-- an accepted table, and a start that keeps its rules
pub starts_iff : (s : Start) → Accepts s ↔ (RulesHold s.table × AllHold (start_rules s))
unfolding run_rules
starts_iff s = (
  λ a. let h = (all_hold_append (check_rules s.table) (start_rules s)).0 ((accepted_iff (run_rules s)).0 a) in ((check_rules-iff s.table).0 h.0, h.1),
  λ h. (accepted_iff (run_rules s)).1 ((all_hold_append (check_rules s.table) (start_rules s)).1 ((check_rules-iff s.table).1 h.0, h.1)),
)
