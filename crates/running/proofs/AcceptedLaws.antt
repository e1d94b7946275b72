-- What an accepted table and an accepted start are, by their rules, and that a run ends as an accepted start. Assumes nothing.
use mathlib.Core.List.{List, ◌++◌}
use mathlib.Core.Logic.{◌↔◌}
use Prim.Native.Nat.{ℕ}
use Rattle.base.specs.Refusals.{AllHold, no_rule, one_more}
use Rattle.base.proofs.RefusalLaws.{accepted_iff, all_hold_append}
use Rattle.table.specs.Bytes.{header}
use Rattle.table.specs.Records.{header_rules, record_rules, RecordsHold}
use Rattle.table.specs.Decode.{program}
use Rattle.table.proofs.View.{Reads}
use Rattle.table.proofs.RecordLaws.{records_hold_iff}
use Rattle.table.proofs.ExpressionLaws.{expr_view}
use Rattle.table.proofs.Program.{program_reads}
use Rattle.forest.specs.Forest.{forest_rules}
use Rattle.typing.specs.Typing.{TypingHolds}
use Rattle.typing.specs.Verdict.{type_rules, check_rules}
use Rattle.typing.proofs.BlockLaws.{type_rules-iff}
use Rattle.running.specs.Start.{Start, start_rules}
use Rattle.running.specs.Result.{run_rules, Accepts, ran, next_start}
use Rattle.running.proofs.StartLaws.{start_rules-hold}
use Rattle.running.proofs.StartKeeps.{Checked, accepted_stays}

-- ------------------------------------------------------------------------------------------------
-- Tables

pub records_of : {s : List ℕ} → AllHold (header_rules s ++ record_rules s) → RecordsHold s
records_of {s} h = (records_hold_iff s).0 ((all_hold_append (header_rules s) (record_rules s)).0 h).1

-- refusals 12 and 13, at each of their places
type_rules-hold : (s : List ℕ) → AllHold (header_rules s ++ record_rules s) → AllHold (type_rules s) ↔ TypingHolds s
unfolding type_rules
type_rules-hold s h = (to, λ t. let p = (type_rules-iff reads).1 t in one_more p.0 (one_more p.1 no_rule))
  where
    reads : Reads s 0 (header s).statements (program s)
    reads = program_reads (records_of h)

    to : AllHold (type_rules s) → TypingHolds s
    to (one_more e (one_more k no_rule)) = (type_rules-iff reads).0 (e, k)

-- what refusals 1 to 13 leave of a table
pub record TableOk (s : List ℕ) : Type 0 where
  pub read : AllHold (header_rules s ++ record_rules s)
  pub forest : AllHold (forest_rules s)
  pub types : TypingHolds s

pub table_ok_iff : (s : List ℕ) → AllHold (check_rules s) ↔ TableOk s
unfolding check_rules
table_ok_iff s = (
  λ a.
      let h = (all_hold_append (header_rules s) _).0 a in
      let r = (all_hold_append (record_rules s) _).0 h.1 in
      let f = (all_hold_append (forest_rules s) _).0 r.1 in
      let read = (all_hold_append (header_rules s) (record_rules s)).1 (h.0, r.0) in
      record { read = read; forest = f.0; types = (type_rules-hold s read).0 f.1 },
  λ h.
      let r = (all_hold_append (header_rules s) (record_rules s)).0 h.read in
      let t = (type_rules-hold s h.read).1 h.types in
      let f = (all_hold_append (forest_rules s) (type_rules s)).1 (h.forest, t) in
      (all_hold_append (header_rules s) _).1 (r.0, (all_hold_append (record_rules s) _).1 (r.1, f)),
)

pub checked : {s : List ℕ} → TableOk s → Checked s
checked h =
    let r = records_of h.read in
    record { variables = r.variables; views = expr_view r; reads = program_reads r; typed = h.types.program }

-- ------------------------------------------------------------------------------------------------
-- Starts

-- by its table and its own rules
accepts : (s : Start) → AllHold (check_rules s.table) → AllHold (start_rules s) → Accepts s
unfolding run_rules
accepts s t h = (accepted_iff (run_rules s)).1 ((all_hold_append (check_rules s.table) (start_rules s)).1 (t, h))

module _ (s : Start) (a : Accepts s) where
  pub table_rules_hold : AllHold (check_rules s.table)
  unfolding run_rules
  table_rules_hold = ((all_hold_append (check_rules s.table) (start_rules s)).0 ((accepted_iff (run_rules s)).0 a)).0

  pub table_ok : TableOk s.table
  table_ok = (table_ok_iff s.table).0 table_rules_hold

  pub next_accepts : (budget : ℕ) → Accepts (next_start s (ran s) budget)
  unfolding next_start
  next_accepts budget =
      accepts (next_start s (ran s) budget) table_rules_hold (accepted_stays s (checked table_ok) (start_rules-hold s a) budget)
