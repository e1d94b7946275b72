-- The three demands of the order (docs/ORDER.md), each under the customer's own words and in their order, stated once, of any library. What
-- the rules give, what the code's contracts say, what C is told and the programs that are to be shut out are all such libraries.
-- 'Document 01' is paper 01. Assumes nothing.
use Rattle.std.specs.Prelude.{◌≡◌, Bool, false, List, ◌++◌, ◌↔◌, ℕ, ◌<◌, eqb, leb, Some, None, Err}
use Rattle.std.specs.Prelude.{if◌then◌else◌}
use Rattle.base.specs.declared.codes.Code.{Code}
use Rattle.base.specs.declared.codes.Code.TheVariants as Codes
use Rattle.base.specs.declared.Refusal.{Refusal}
use Rattle.base.specs.Named.{code_named, stop_named}
use Rattle.base.specs.Refusals.{Accepted, Refused, Answer, HoldsBelow, AllHold, FirstFault, code_of, place_of}
use Rattle.value.specs.declared.ValueType.{ValueType}
use Rattle.table.specs.Bytes.{header}
use Rattle.table.specs.Records.{RecordsHold, header_rules, record_rules}
use Rattle.table.specs.Decode.{Context, context, expr}
use Rattle.table.specs.Syntax.{Expr}
use Rattle.forest.specs.Forest.{forest_rules}
use Rattle.typing.specs.Typing.{◌⊢◌∶◌, TypingHolds}
use Rattle.typing.specs.Infer.{infer}
use Rattle.typing.specs.Verdict.{check_rules, check}
use Rattle.sealing.specs.Sealing.{Seals, Breaks, SealHolds}
use Rattle.sealing.specs.Labels.{label_of}
use Rattle.sealing.specs.Verdict.{expression_seal_rule, seal_rules, seal_check}
use Rattle.memory.specs.Log.{entries}
use Rattle.memory.specs.Typed.{Has}
use Rattle.evaluation.specs.State.{in_state}
use Rattle.running.specs.declared.Ending.{Ending}
use Rattle.running.specs.declared.Ending.TheVariants as Endings
use Rattle.running.specs.Start.{Start, start_rules}
use Rattle.running.specs.Result as Results
use Rattle.running.specs.Result.{run_rules, Accepts, Result, refused, ran, result, next_start}
use Rattle.secrecy.specs.Agreement.{Agreeing, SameResult}

-- what a library offers: which answer it may give to the bytes that are lent to it, and which result to a start
pub record Library : Type 1 where
  pub check : List ℕ → Answer → Type 0
  pub seal : List ℕ → Answer → Type 0
  pub run : Start → Result → Type 0

-- ------------------------------------------------------------------------------------------------
-- Demand 1

pub record Demand1 (l : Library) : Type 0 where
  -- "Each entry takes every table, state and log that can be lent to it, and ends."
  pub checks : (s : List ℕ) → (r : Answer) × l.check s r
  pub seals : (s : List ℕ) → (r : Answer) × l.seal s r
  pub runs : (s : Start) → (r : Result) × l.run s r
  -- "A faulty one is answered by the first refusal in document 01's order, with its place,"
  pub check : (s : List ℕ) (r : Answer) → l.check s r → (code : Code) (place : ℕ) → (r ≡ Refused code place) ↔ FirstFault (check_rules s) code place
  pub seal : (s : List ℕ) (r : Answer) → l.seal s r → (code : Code) (place : ℕ) → (r ≡ Refused code place) ↔ FirstFault (check_rules s ++ seal_rules s) code place
  pub run : (s : Start) (r : Result) → l.run s r → (e : Refusal) → (r.ending ≡ Endings.Refused e) ↔ FirstFault (run_rules s) e.code e.place
  -- "and the buffers stay unchanged.": `refused` has them, the log count and the next address as they were lent, and no ticks
  pub unchanged : (s : Start) (r : Result) → l.run s r → (e : Refusal) → r.ending ≡ Endings.Refused e → r ≡ refused s e

-- ------------------------------------------------------------------------------------------------
-- Demand 2

-- what paper 01 asks of a table: its header and records (1 to 7), and its type rules: uses, depth, nesting and let scope (8 to 11) and
-- the rules of 002 (12 and 13)
pub record RulesHold (s : List ℕ) : Type 0 where
  pub records : AllHold (header_rules s ++ record_rules s)
  pub forest : AllHold (forest_rules s)
  pub types : TypingHolds s

-- "Every variable then still has its declared type."
abbrev pub TypesKept : Library → Type 0
TypesKept l =
    (s : Start) (r : Result) → l.run s r → Accepts s → (x : ℕ) → x < (header s.table).variables
    → Has (entries r.log r.count) (in_state r.state ((context s.table).type x) x) ((context s.table).type x)

-- what is left can be lent again, with any budget: an accepted start ends as an accepted start
abbrev pub StartsAgain : Library → Type 0
StartsAgain l = (s : Start) (r : Result) → l.run s r → Accepts s → (budget : ℕ) → Accepts (next_start s r budget)

pub record Demand2 (l : Library) : Type 0 where
  -- "The verdict is yes exactly when the typing rules of the BIL specification, narrowed as in document 01, hold;"
  pub verdict : (s : List ℕ) (r : Answer) → l.check s r → (r ≡ Accepted) ↔ RulesHold s
  -- "the seal verdict exactly when its seal rules hold too."
  pub seal : (s : List ℕ) (r : Answer) → l.seal s r → (r ≡ Accepted) ↔ (RulesHold s × SealHolds s)
  -- "An accepted table from an accepted start gives the answer, place, tick count, next address, variables and log of those rules'
  -- evaluation, at every budget." The start has the budget; `ran` is what the rules' evaluation gives.
  pub run : (s : Start) (r : Result) → l.run s r → Accepts s → r ≡ ran s
  pub types : TypesKept l
  pub again : StartsAgain l

-- ------------------------------------------------------------------------------------------------
-- Demand 3

-- "Suppose a table's seal verdict is yes. Take two accepted starts of it with the same budget, next address, log room and log count,
-- which agree in the value of each open variable and may differ in every sealed one." (`Agreeing`) "Both runs give the same answer,
-- place, tick count, next address and log count, and the same final value of each open variable. A memory's value is its stores, newest
-- first; an absent variable's is unknown." (`SameResult`)
abbrev pub Demand3 : Library → Type 0
Demand3 l =
    (s t : Start) (r q : Result) → l.seal s.table Accepted → Agreeing s t → l.run s r → l.run t q → SameResult s.table r q

-- ------------------------------------------------------------------------------------------------
-- What a caller is told by numbers alone, as C is

-- what a number tells that is no code of paper 01: a refusal that no rule gives, as 1 has place 0 alone
abbrev pub nothing_told : Refusal
nothing_told = record { code = Codes.TooShort; place = 1 }

unfoldable pub refusal_of : ℕ → ℕ → Refusal
unfolding code_named
refusal_of code place = elim (code_named code) [ Some named ↦ record { code = named; place = place } | None ↦ nothing_told ]

unfoldable pub stop_of : ℕ → ℕ → Ending
unfolding stop_named
stop_of code place = elim (stop_named code) [ Some named ↦ Endings.Stopped named place | None ↦ Endings.Refused nothing_told ]

-- a check's code and place: 0 is "accepted, clean"
unfoldable pub answer_of : ℕ → ℕ → Answer
unfolding refusal_of
answer_of code place = if eqb code 0 then Accepted else Err (refusal_of code place)

-- a run's: 0 is "done"; 1 to 18 are refusals, what is above are stops
unfoldable pub ending_of : ℕ → ℕ → Ending
unfolding refusal_of stop_of
ending_of code place = if eqb code 0 then Endings.Done else (if leb code 18 then Endings.Refused (refusal_of code place) else stop_of code place)

-- ------------------------------------------------------------------------------------------------
-- What the demands' words rest on

pub record Decided : Type 0 where
  -- a start is accepted exactly when the table's rules and the start's rules (16 to 18) all hold
  pub starts : (s : Start) → Accepts s ↔ (RulesHold s.table × AllHold (start_rules s))
  -- answers and endings are told apart by their numbers: one number never tells two kinds of ending
  pub answers : (s : List ℕ) → answer_of (code_of (check s)) (place_of (check s)) ≡ check s
  pub seal_answers : (s : List ℕ) → answer_of (code_of (seal_check s)) (place_of (seal_check s)) ≡ seal_check s
  pub endings : (s : Start) → ending_of (Results.code_of (result s).ending) (Results.place_of (result s).ending) ≡ (result s).ending
  -- and a number that is no code tells what no rule gives
  pub no_check : (s : List ℕ) → FirstFault (check_rules s) nothing_told.code nothing_told.place → ⊥
  pub no_seal : (s : List ℕ) → FirstFault (check_rules s ++ seal_rules s) nothing_told.code nothing_told.place → ⊥
  pub no_run : (s : Start) → FirstFault (run_rules s) nothing_told.code nothing_told.place → ⊥
  -- where a verdict names a place it goes by `infer` and `label_of`: they say what the rules say of each expression
  pub types : (Γ : Context) (e : Expr) (t : ValueType) → (infer Γ e ≡ Some t) ↔ (Γ ⊢ e ∶ t)
  pub one_type : (Γ : Context) (e : Expr) (t u : ValueType) → Γ ⊢ e ∶ t → Γ ⊢ e ∶ u → t ≡ u
  pub labels : (Γ : Context) (e : Expr) (l : Bool) → (label_of Γ e ≡ Some l) ↔ Seals Γ e l
  -- 14 names the lowest expression that breaks a seal rule itself
  pub broken :
      (s : List ℕ) → RecordsHold s → (i : ℕ) → i < (header s).expressions
      → (HoldsBelow (expression_seal_rule s).holds i × ((expression_seal_rule s).holds i ≡ false))
      ↔ (((k : ℕ) → k < i → Breaks (context s) (expr s k) → ⊥) × Breaks (context s) (expr s i))

-- ------------------------------------------------------------------------------------------------
-- Libraries of functions

-- each gives what a function gives
abbrev pub of_functions : (List ℕ → Answer) → (List ℕ → Answer) → (Start → Result) → Library
of_functions check seal run = record { check = λ s r. r ≡ check s; seal = λ s r. r ≡ seal s; run = λ s r. r ≡ run s }

-- what the rules themselves give
abbrev pub rules : Library
rules = of_functions check seal_check result
