-- The answer of each entry, from the answers of its parts, whatever they are called there. Assumes nothing.
use Rattle.std.proofs.Common.{◌≡◌, refl, sym, ap, subst, ◌∙◌, List, [], ◌∷◌, ◌++◌, ℕ}
use mathlib.Core.Bool.{false≢true}
use Rattle.std.specs.Prelude.{Result, Ok, Err, IsErr}
use Rattle.base.specs.declared.Refusal.{Refusal}
use Rattle.base.specs.Refusals.{Answer, Accepted, refusal, answer_of}
use Rattle.base.proofs.RefusalLaws.{refuses_here, answers_next}
use Rattle.table.specs.declared.read.Table.{Table}
use Rattle.forest.specs.Forest.{use_rule, forest_rules}
use Rattle.forest.proofs.UserLaws.{each_used}
use Rattle.typing.specs.Verdict.{type_rules, check_rules, check}
use Rattle.sealing.specs.Verdict.{seal_rules, seal_check}
use Rattle.verdict.proofs.CheckLaws.{checked}

-- ------------------------------------------------------------------------------------------------
-- The forest, and the types where it holds

module _ (s : List ℕ) {x : Answer} (forest : x ≡ refusal (forest_rules s)) where
  pub forest_refuses : {r : Answer} {e : Refusal} → r ≡ Err e → x ≡ Err e → r ≡ refusal (forest_rules s ++ type_rules s)
  forest_refuses on given = on ∙ refuses_here (forest_rules s) (type_rules s) forest given

  pub forest_accepts : {r : Answer} → x ≡ Accepted → r ≡ refusal (type_rules s) → r ≡ refusal (forest_rules s ++ type_rules s)
  forest_accepts given later = answers_next (forest_rules s) (type_rules s) forest given later

  pub forest_once : x ≡ Accepted → refusal (use_rule s ∷ []) ≡ Accepted
  forest_once given = each_used s (sym forest ∙ given)

pub ruleset forest_answers = (forest_refuses, forest_accepts, forest_once)

-- ------------------------------------------------------------------------------------------------
-- The check, and the seals of the table that it accepts

module _ (s : List ℕ) (x : Result Table Refusal) where
  -- v is the answer of the two
  pub check_refuses : {r v : Answer} → answer_of x ≡ check s → IsErr x → r ≡ answer_of x → seal_check s ≡ v → r ≡ v
  unfolding check seal_check
  check_refuses answer bad on is = on ∙ go x answer bad ∙ is
    where
      go : (x : Result Table Refusal) → answer_of x ≡ refusal (check_rules s) → IsErr x → answer_of x ≡ refusal (check_rules s ++ seal_rules s)
      go (Ok _) answer bad = absurd (false≢true bad)
      go (Err e) answer bad = refuses_here (check_rules s) (seal_rules s) answer refl

  pub check_accepts : {r : Answer} {t : Table} → r ≡ refusal (seal_rules t.frame.bytes.now) → answer_of x ≡ check s → x ≡ Ok t → t.frame.bytes.now ≡ s
      → r ≡ seal_check s
  unfolding check seal_check
  check_accepts later answer given bytes =
      answers_next (check_rules s) (seal_rules s) answer (ap answer_of given) (later ∙ ap (λ s. refusal (seal_rules s)) bytes)

  pub check_once : {t : Table} → answer_of x ≡ check s → x ≡ Ok t → t.frame.bytes.now ≡ s → refusal (use_rule t.frame.bytes.now ∷ []) ≡ Accepted
  check_once answer given bytes =
      subst (λ s. refusal (use_rule s ∷ []) ≡ Accepted) (sym bytes) (checked s (sym answer ∙ ap answer_of given)).once

pub ruleset seal_answers = (check_refuses, check_accepts, check_once)
