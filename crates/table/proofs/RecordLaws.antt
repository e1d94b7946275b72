-- Refusals 5 to 7 do not come exactly where every record holds, and what holds where 1 to 7 do not come. Assumes nothing.
use mathlib.Core.Path.{◌≡◌}
use mathlib.Core.List.{List, ◌++◌}
use mathlib.Core.Logic.{◌↔◌}
use Prim.Native.Nat.{ℕ, ◌<◌}
use Rattle.base.specs.Refusals.{Accepted, AllHold, no_rule, one_more, refusal}
use Rattle.base.proofs.RefusalLaws.{accepted_iff, all_hold_append}
use Rattle.value.specs.Values.{TypeOk}
use Rattle.table.specs.Bytes.{header, variable}
use Rattle.table.specs.Records.{variable_rule, expression_rule, statement_rule, header_rules, record_rules, Framed, RecordsHold}
use Rattle.table.specs.Decode.{context}
use Rattle.table.proofs.FieldLaws.{declared_type-ok}
use Rattle.table.proofs.FrameLaws.{framed}

pub records_hold_iff : (s : List ℕ) → AllHold (record_rules s) ↔ RecordsHold s
unfolding record_rules variable_rule expression_rule statement_rule
records_hold_iff s = (to, λ h. one_more h.variables (one_more h.expressions (one_more h.statements no_rule)))
  where
    to : AllHold (record_rules s) → RecordsHold s
    to (one_more v (one_more e (one_more t no_rule))) = record { variables = v; expressions = e; statements = t }

pub read_holds : (s : List ℕ) → refusal (header_rules s ++ record_rules s) ≡ Accepted → Framed s (header s) × RecordsHold s
read_holds s e =
    let h = (all_hold_append (header_rules s) (record_rules s)).0 ((accepted_iff (header_rules s ++ record_rules s)).0 e) in
    (framed s ((accepted_iff (header_rules s)).1 h.0), (records_hold_iff s).0 h.1)

-- the type of a variable is one that there is
pub declared_ok : {s : List ℕ} → RecordsHold s → (x : ℕ) → x < (header s).variables → TypeOk ((context s).type x)
unfolding context
declared_ok {s} h x l = declared_type-ok (variable s x) (h.variables x l)
