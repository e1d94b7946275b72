-- The rules of the check in its parts, and what it leaves where it accepts. Assumes nothing.
use mathlib.Core.Path.{◌≡◌, ap, ◌∙◌}
use mathlib.Core.List.{List, [], ◌∷◌, ◌++◌, append_assoc}
use Prim.Native.Nat.{ℕ}
use Rattle.base.specs.Refusals.{Accepted, refusal}
use Rattle.base.proofs.RefusalLaws.{accepted_iff, all_hold_append}
use Rattle.table.specs.Bytes.{header}
use Rattle.table.specs.Records.{header_rules, record_rules, Framed, RecordsHold}
use Rattle.table.proofs.RecordLaws.{read_holds}
use Rattle.forest.specs.Forest.{use_rule, forest_rules}
use Rattle.forest.proofs.UserLaws.{each_used}
use Rattle.typing.specs.Verdict.{type_rules, check_rules, check}

-- 1 to 7, then 8 to 13
pub check_parts : (s : List ℕ) → refusal ((header_rules s ++ record_rules s) ++ (forest_rules s ++ type_rules s)) ≡ check s
unfolding check check_rules
check_parts s = ap refusal (append_assoc (header_rules s) (record_rules s) (forest_rules s ++ type_rules s))

-- what an accepted table is
pub record Checked (s : List ℕ) : Type 0 where
  pub framed : Framed s (header s)
  pub hold : RecordsHold s
  pub once : refusal (use_rule s ∷ []) ≡ Accepted

pub checked : (s : List ℕ) → check s ≡ Accepted → Checked s
checked s e =
    let read = header_rules s ++ record_rules s in
    let later = forest_rules s ++ type_rules s in
    let h = (all_hold_append read later).0 ((accepted_iff (read ++ later)).0 (check_parts s ∙ e)) in
    let k = (all_hold_append (forest_rules s) (type_rules s)).0 h.1 in
    let r = read_holds s ((accepted_iff read).1 h.0) in
    record { framed = r.0; hold = r.1; once = each_used s ((accepted_iff (forest_rules s)).1 k.0) }
