-- A refusal's number is 1 to 18 and a stop's 32 to 36, so that the numbers tell whether a table is accepted, and how a run ended. A number
-- that is no code tells what no rule gives. Assumes nothing.
use mathlib.Core.Path.{◌≡◌, refl, ap}
use mathlib.Core.Bool.{Bool, true, ◌&&◌}
use mathlib.Core.List.{List, [], ◌∷◌, ◌++◌}
use Prim.Native.Nat.{ℕ, ◌<◌}
use native.Mathlib.Omega.{arith}
use lib.Dec.{eqb, leb}
use borrow.Author.Tests.{leb-true, eq-eqb, ne_eqb, le-leb, lt-leb}
use Rattle.std.specs.Prelude.{if◌then◌else◌, Ok, Err}
use Rattle.base.specs.declared.codes.Code.{Code}
use Rattle.base.specs.declared.codes.Code.TheVariants.{TooShort}
use Rattle.base.specs.declared.codes.Stop.{Stop}
use Rattle.base.specs.declared.Refusal.{Refusal}
use Rattle.base.specs.Codes.{number, stop_number}
use Rattle.base.specs.Refusals.{Answer, Rule, FirstFault, here, further, code_of, place_of}
use Rattle.base.proofs.BoolLaws.{and_left, and_right}
use Rattle.base.proofs.CodeLaws.{number_within, stop_number_within, number_names, stop_number_names}
use Rattle.table.specs.Records.{header_rules, record_rules}
use Rattle.forest.specs.Forest.{forest_rules}
use Rattle.typing.specs.Verdict.{type_rules, check_rules, check}
use Rattle.sealing.specs.Verdict.{seal_rules, seal_check}
use Rattle.running.specs.declared.Ending.{Ending}
use Rattle.running.specs.declared.Ending.TheVariants as Endings
use Rattle.running.specs.Start.{Start, start_rules}
use Rattle.running.specs.Result.{run_rules, result}
use Rattle.running.specs.Result as Runs
use Rattle.demands.specs.Demands.{refusal_of, stop_of, answer_of, ending_of, nothing_told}

-- ------------------------------------------------------------------------------------------------
-- Answers

refusal_named : (e : Refusal) → refusal_of (number e.code) e.place ≡ e
unfolding refusal_of
refusal_named e = rw (number_names e.code, refusal_of) refl

stop_is_named : (stop : Stop) (place : ℕ) → stop_of (stop_number stop) place ≡ Endings.Stopped stop place
unfolding stop_of
stop_is_named stop place = rw (stop_number_names stop, stop_of) refl

-- every answer is told by its numbers
pub answer_told : (a : Answer) → answer_of (code_of a) (place_of a) ≡ a
unfolding answer_of
answer_told (Ok accepted) = refl
answer_told (Err e) =
    let h = number_within e.code in rw (ne_eqb (number e.code) 0 (λ z. absurd (omega arith)), refusal_named e) refl

pub check_told : (s : List ℕ) → answer_of (code_of (check s)) (place_of (check s)) ≡ check s
check_told s = answer_told (check s)

pub seal_told : (s : List ℕ) → answer_of (code_of (seal_check s)) (place_of (seal_check s)) ≡ seal_check s
seal_told s = answer_told (seal_check s)

-- ------------------------------------------------------------------------------------------------
-- Runs

abbrev Told : Ending → Type 0
Told e = ending_of (Runs.code_of e) (Runs.place_of e) ≡ e

-- every ending is told by its numbers
pub ending_told : (e : Ending) → Told e
unfolding ending_of stop_of Runs.code_of Runs.place_of
ending_told Endings.Done = refl
ending_told (Endings.Refused e) =
    let h = number_within e.code in
    rw (ne_eqb (number e.code) 0 (λ z. absurd (omega arith)), le-leb (number e.code) 18 h.1, refusal_named e) refl
ending_told (Endings.Stopped stop place) =
    let h = stop_number_within stop in
    rw (ne_eqb (stop_number stop) 0 (λ z. absurd (omega arith)), lt-leb (stop_number stop) 18 (omega arith)) (stop_is_named stop place)

pub run_told : (s : Start) → Told (result s).ending
run_told s = ending_told (result s).ending

-- ------------------------------------------------------------------------------------------------
-- What tells nothing

-- a rule with code 1 has one place
abbrev sole : Rule → Bool
sole rule = if eqb (number rule.code) 1 then leb rule.places 1 else true

abbrev all_sole : List Rule → Bool
all_sole [] = true
all_sole (rule ∷ later) = sole rule && all_sole later

place_0 : {rules : List Rule} {code : Code} {place : ℕ} → FirstFault rules code place → all_sole rules ≡ true → code ≡ TooShort → place < 1
place_0 (here {rule = rule} {later = later} inside below fails) h is =
    let one : leb rule.places 1 ≡ true = rw (eq-eqb (number rule.code) 1 (ap number is)) at (and_left (sole rule) (all_sole later) h) in
    let most = leb-true rule.places 1 one in
    omega arith
place_0 (further {rule = rule} {later = later} all f) h is = place_0 f (and_right (sole rule) (all_sole later) h) is

none_gives : (rules : List Rule) → all_sole rules ≡ true → FirstFault rules nothing_told.code nothing_told.place → ⊥
none_gives rules sole f = let first = place_0 f sole refl in absurd (omega arith)

pub check_gives_none : (s : List ℕ) → FirstFault (check_rules s) nothing_told.code nothing_told.place → ⊥
unfolding check_rules header_rules record_rules forest_rules type_rules
check_gives_none s = none_gives (check_rules s) refl

pub seal_gives_none : (s : List ℕ) → FirstFault (check_rules s ++ seal_rules s) nothing_told.code nothing_told.place → ⊥
unfolding check_rules header_rules record_rules forest_rules type_rules seal_rules
seal_gives_none s = none_gives (check_rules s ++ seal_rules s) refl

pub run_gives_none : (s : Start) → FirstFault (run_rules s) nothing_told.code nothing_told.place → ⊥
unfolding run_rules check_rules header_rules record_rules forest_rules type_rules start_rules
run_gives_none s = none_gives (run_rules s) refl
