-- Paper 01's limits, each from both sides and with its number written out: what is at the limit is accepted, and one past it is refused. Small tables
-- and starts are rows of one table; what is too large to compute is a theorem over any bytes, or any log, of that size. Assumes nothing.
use Rattle.std.specs.Prelude.{◌≡◌, Bool, false, ◌&&◌, List, [], ◌∷◌, ◌++◌, map, eqb, length, replicate}
use Rattle.std.proofs.Math.Path.{refl, ap}
use Rattle.std.proofs.Common.{◌∙◌, arith, lit<}
use Rattle.std.proofs.Math.Bool.{and-false}
use Prim.Native.Nat.{ℕ, zero, suc, pred, ◌+◌, ◌*◌, ◌/◌, ◌%◌, ◌≤◌}
use Rattle.std.proofs.Math.Dec.{leb}
use Rattle.std.proofs.lemmas.List.{length-replicate}
use borrow.Author.Tests.{le-leb, eq-eqb}
use Rattle.base.specs.declared.codes.Code.TheVariants as Codes
use Rattle.base.specs.Choice.{within}
use Rattle.base.specs.Refusals.{Accepted, Refused, HoldsBelow, AllHold, no_rule, one_more, here, further, refusal}
use Rattle.base.proofs.BoolLaws.{and_both}
use Rattle.base.proofs.RefusalLaws.{accepted_iff, refused_iff, refusal_rest}
use Rattle.table.specs.Bytes.{header}
use Rattle.table.specs.Records.{header_rules, record_rules}
use Rattle.table.specs.declared.Node.{Node}
use Rattle.table.proofs.Assembler.{header_of, assembled, immediate, memory}
use Rattle.table.proofs.Assembler.{var, word, cast, extract, concat, move, jmp, cpuexn, while, if}
use Rattle.forest.specs.Forest.{forest_rules}
use Rattle.typing.specs.Verdict as Types
use Rattle.typing.specs.Verdict.{type_rules, check_rules}
use Rattle.running.specs.declared.Ending.TheVariants as Endings
use Rattle.running.specs.Start.{Start, start_rules, numbers_ok, numbers_rule, entry_rule, pair_rule}
use Rattle.running.specs.Result as Results
use Rattle.running.specs.Result.{run_rules, Accepts, result, ran, refused}
use Rattle.running.proofs.StartLaws.{result_ran, result_refused}
use Rattle.examples.specs.Runs.{paper}
use Rattle.examples.specs.Refused.{check, run, answer, Row, ◌gives◌at◌, with, begun}

-- ------------------------------------------------------------------------------------------------
-- "variables V (0 to 256)", "expressions E (0 to 2,048)", "statements S (1 to 1,024)": any bytes whose header has these counts

-- bytes of which refusals 1 and 2 have nothing to say: at least 32, format 1, "address width A (.., 1 to 64)"
pub record Opens (s : List ℕ) : Type 0 where
  pub long : 32 ≤ length s
  pub format : (header s).format ≡ 1
  pub least : 1 ≤ (header s).width
  pub most : (header s).width ≤ 64

-- what refusal 3 asks of the three counts
abbrev counts : ℕ → ℕ → ℕ → Bool
counts v e n = leb v 256 && (leb e 2048 && within 1 1024 n)

module _ (s : List ℕ) (o : Opens s) where
  refused_count : counts (header s).variables (header s).expressions (header s).statements ≡ false → Types.check s ≡ Refused Codes.Count 0
  unfolding Types.check check_rules header_rules
  refused_count fails =
      (refused_iff (check_rules s) Codes.Count 0).1
      (further (λ i h. le-leb 32 _ o.long)
      (further (λ i h. and_both (eq-eqb _ 1 o.format) (and_both (le-leb 1 _ o.least) (le-leb _ 64 o.most)))
      (here (omega arith) (λ i h. absurd (omega arith)) fails)))

  pub variables_257 : (header s).variables ≡ 257 → Types.check s ≡ Refused Codes.Count 0
  variables_257 is = refused_count (ap (λ (v : ℕ). counts v (header s).expressions (header s).statements) is)

  pub expressions_2049 : (header s).expressions ≡ 2049 → Types.check s ≡ Refused Codes.Count 0
  expressions_2049 is =
      refused_count (ap (λ (e : ℕ). counts (header s).variables e (header s).statements) is ∙ and-false (leb (header s).variables 256))

  -- neither of the other counts saves it
  statements_refused : within 1 1024 (header s).statements ≡ false → Types.check s ≡ Refused Codes.Count 0
  statements_refused fails =
      refused_count
      (ap (λ (t : Bool). leb (header s).variables 256 && (leb (header s).expressions 2048 && t)) fails
      ∙ ap (λ (t : Bool). leb (header s).variables 256 && t) (and-false (leb (header s).expressions 2048))
      ∙ and-false (leb (header s).variables 256))

  pub statements_1025 : (header s).statements ≡ 1025 → Types.check s ≡ Refused Codes.Count 0
  statements_1025 is = statements_refused (ap (within 1 1024) is)

  pub statements_0 : (header s).statements ≡ 0 → Types.check s ≡ Refused Codes.Count 0
  statements_0 is = statements_refused (ap (within 1 1024) is)

-- bytes whose header has an address width, counts, their offsets and the total, which is also their length
pub record Counted (s : List ℕ) (width v e n : ℕ) : Type 0 where
  pub is : header s ≡ header_of width v e n
  pub long : length s ≡ 32 + 8 * v + 16 * e + 16 * n

-- with the most of each the header is accepted, and what is told of such bytes is told by their records; a whole table of them that is accepted is
-- `full` (proofs/FullTable)
pub most_accepted : (s : List ℕ) → Counted s 64 256 2048 1024 → refusal (header_rules s) ≡ Accepted
unfolding header_rules header_of refusal
most_accepted s f = rw (f.is, f.long, header_rules)

pub most_told : (s : List ℕ) → Counted s 64 256 2048 1024 → Types.check s ≡ refusal (record_rules s ++ (forest_rules s ++ type_rules s))
unfolding Types.check check_rules
most_told s f = refusal_rest (header_rules s) (record_rules s ++ (forest_rules s ++ type_rules s)) (most_accepted s f)

-- ------------------------------------------------------------------------------------------------
-- 16, at place 1: "log .. over 65,536 entries", four numbers an entry: any log of so many numbers, of which no entry is within the count

-- the 72 bytes, their variable absent, and a log
pub with_log : List ℕ → Start
unfolding paper
with_log log = record { table = paper; state = 0 ∷ 0 ∷ []; log = log; count = 0; next = 0; budget = 10 }

paper_accepted : refusal (check_rules paper) ≡ Accepted
unfolding refusal check_rules paper
paper_accepted = refl

-- what place 1 asks of the length of a log
abbrev fits : ℕ → Bool
fits n = eqb (n % 4) 0 && leb (n / 4) 65536

module _ (log : List ℕ) where
  rules_65536 : length log ≡ 4 * 65536 → AllHold (start_rules (with_log log))
  unfolding with_log start_rules numbers_ok
  rules_65536 e = one_more numbers (one_more entries (one_more pairs no_rule))
    where
      numbers : HoldsBelow (numbers_rule (with_log log)).holds 4
      numbers zero h = refl
      numbers (suc zero) h = ap fits e
      numbers (suc (suc zero)) h = ap (λ (n : ℕ). leb 0 (n / 4)) e
      numbers (suc (suc (suc zero))) h = refl
      numbers (suc (suc (suc (suc i)))) h = absurd (omega arith)

      entries : HoldsBelow (entry_rule log 0).holds 1
      entries zero h = refl
      entries (suc n) h = absurd (omega arith)

      pairs : HoldsBelow (pair_rule paper (0 ∷ 0 ∷ []) []).holds 1
      pairs zero h = refl
      pairs (suc x) h = absurd (omega arith)

  accepts_65536 : length log ≡ 4 * 65536 → Accepts (with_log log)
  unfolding with_log run_rules
  accepts_65536 e =
      refusal_rest (check_rules paper) (start_rules (with_log log)) paper_accepted ∙ (accepted_iff (start_rules (with_log log))).1 (rules_65536 e)

  pub log_65536 : length log ≡ 4 * 65536 → (result (with_log log)).ending ≡ Endings.Done
  unfolding with_log ran
  log_65536 e = ap (λ r. r.ending) (result_ran (with_log log) (accepts_65536 e))

  pub log_65537 : length log ≡ 4 * 65537 → (result (with_log log)).ending ≡ Endings.Refused (record { code = Codes.Start; place = 1 })
  unfolding with_log run_rules start_rules numbers_ok refused
  log_65537 e = ap (λ r. r.ending) (result_refused (with_log log) (refusal_rest (check_rules paper) (start_rules (with_log log)) paper_accepted ∙ second))
    where
      below : HoldsBelow (numbers_rule (with_log log)).holds 1
      below zero h = refl
      below (suc i) h = absurd (omega arith)

      second : refusal (start_rules (with_log log)) ≡ Refused Codes.Start 1
      second = (refused_iff (start_rules (with_log log)) Codes.Start 1).1 (here (lit< tt) below (ap fits e))

-- such logs, of zeros
pub zero_logs :
    ((result (with_log (replicate (4 * 65536) 0))).ending ≡ Endings.Done)
    × ((result (with_log (replicate (4 * 65537) 0))).ending ≡ Endings.Refused (record { code = Codes.Start; place = 1 }))
zero_logs = (log_65536 _ (length-replicate {A = ℕ} (4 * 65536) 0), log_65537 _ (length-replicate {A = ℕ} (4 * 65537) 0))

-- ------------------------------------------------------------------------------------------------
-- Small tables and starts: the accepted side of a limit, then the refused one. Depth 64 is in Runs, nesting 32 in Refused.

-- "address width A (2 bytes, 1 to 64)"; the least counts: "variables V (0 to 256)", "expressions E (0 to 2,048)", "statements S (1 to 1,024)"
header_rows : List Row
unfolding ◌gives◌at◌ assembled
header_rows =
    (check (assembled 64 [] (word 64 0xffffffffffffffff ∷ []) (jmp 0 ∷ [])) gives 0 at 0)  -- A is 64
    ∷ (check (assembled 65 [] (word 64 0xffffffffffffffff ∷ []) (jmp 0 ∷ [])) gives 2 at 0)
    ∷ (check (assembled 1 [] (word 1 1 ∷ []) (jmp 0 ∷ [])) gives 0 at 0)  -- A is 1
    ∷ (check (assembled 0 [] (word 1 1 ∷ []) (jmp 0 ∷ [])) gives 2 at 0)
    ∷ (check (assembled 8 [] [] (cpuexn 0 ∷ [])) gives 0 at 0)  -- no variable, no expression, one statement
    ∷ (check (assembled 8 [] [] []) gives 3 at 0)  -- no statement
    ∷ []

-- "width (1 to 64; for memory 8), address width (0 for an immediate, 1 to 64 for memory)", of a variable
variable_rows : List Row
unfolding ◌gives◌at◌ assembled
variable_rows =
    (check (assembled 8 (immediate 64 ∷ immediate 1 ∷ memory 64 ∷ memory 1 ∷ []) [] (cpuexn 0 ∷ [])) gives 0 at 0)
    ∷ (check (assembled 8 (immediate 65 ∷ []) [] (cpuexn 0 ∷ [])) gives 5 at 0)
    ∷ (check (assembled 8 (immediate 0 ∷ []) [] (cpuexn 0 ∷ [])) gives 5 at 0)
    ∷ (check (assembled 8 (memory 65 ∷ []) [] (cpuexn 0 ∷ [])) gives 5 at 0)
    ∷ (check (assembled 8 (memory 0 ∷ []) [] (cpuexn 0 ∷ [])) gives 5 at 0)
    ∷ []

-- expressions over x, a variable of 64 bits, of which the last is moved to x
moved : List Node → List ℕ
unfolding assembled
moved expressions = assembled 8 (immediate 64 ∷ []) expressions (move 0 (pred (length expressions)) ∷ [])

expression_rows : List Row
unfolding ◌gives◌at◌ moved
expression_rows =
    -- "value b + 2^32·c, which needs no more bits than its width"
    (check (moved (word 8 0xff ∷ cast 4 64 0 ∷ [])) gives 0 at 0)
    ∷ (check (moved (word 8 0x100 ∷ cast 4 64 0 ∷ [])) gives 6 at 0)
    -- "p width 1 to 64" of a word
    ∷ (check (moved (word 64 0xffffffffffffffff ∷ [])) gives 0 at 0)
    ∷ (check (moved (word 65 0 ∷ [])) gives 6 at 0)
    -- "extract p high, q low, q ≤ p, p−q ≤ 63": 64 bits, and 65
    ∷ (check (moved (var 0 ∷ extract 63 0 0 ∷ [])) gives 0 at 0)
    ∷ (check (moved (var 0 ∷ extract 64 0 0 ∷ [])) gives 6 at 1)
    ∷ (check (moved (var 0 ∷ extract 255 192 0 ∷ [])) gives 0 at 0)
    ∷ (check (moved (var 0 ∷ extract 255 191 0 ∷ [])) gives 6 at 1)
    ∷ (check (moved (var 0 ∷ extract 7 7 0 ∷ cast 4 64 1 ∷ [])) gives 0 at 0)  -- one bit
    ∷ (check (moved (var 0 ∷ extract 6 7 0 ∷ cast 4 64 1 ∷ [])) gives 6 at 1)  -- and none
    -- "A concat is at most 64 bits."
    ∷ (check (moved (word 63 0 ∷ word 1 0 ∷ concat 0 1 ∷ [])) gives 0 at 0)
    ∷ (check (moved (word 64 0 ∷ word 1 0 ∷ concat 0 1 ∷ [])) gives 12 at 2)
    ∷ []

-- "Bodies follow their statement at once, nested ones counted, then before else; they end inside the block around them."
body_rows : List Row
unfolding ◌gives◌at◌ with
body_rows =
    -- a while whose body ends where the table ends, and one longer
    (check (with (word 1 0 ∷ []) (while 0 1 ∷ cpuexn 0 ∷ [])) gives 0 at 0)
    ∷ (check (with (word 1 0 ∷ []) (while 0 2 ∷ cpuexn 0 ∷ [])) gives 7 at 0)
    -- an if in a while, both of which end at statement 3, where one more stands: the if one longer, and both
    ∷ (check (with (word 1 0 ∷ word 1 0 ∷ []) (while 0 2 ∷ if 1 1 0 ∷ cpuexn 0 ∷ cpuexn 1 ∷ [])) gives 0 at 0)
    ∷ (check (with (word 1 0 ∷ word 1 0 ∷ []) (while 0 2 ∷ if 1 2 0 ∷ cpuexn 0 ∷ cpuexn 1 ∷ [])) gives 7 at 1)
    ∷ (check (with (word 1 0 ∷ word 1 0 ∷ []) (while 0 3 ∷ if 1 2 0 ∷ cpuexn 0 ∷ cpuexn 1 ∷ [])) gives 0 at 0)
    ∷ (check (with (word 1 0 ∷ word 1 0 ∷ []) (while 0 4 ∷ if 1 2 0 ∷ cpuexn 0 ∷ cpuexn 1 ∷ [])) gives 7 at 0)
    -- a then that ends where its else begins, a while in the then; and an else that ends where the while around it ends
    ∷ (check (with (word 1 0 ∷ word 1 0 ∷ []) (if 0 2 1 ∷ while 1 1 ∷ cpuexn 0 ∷ cpuexn 1 ∷ [])) gives 0 at 0)
    ∷ (check (with (word 1 0 ∷ word 1 0 ∷ []) (if 0 2 1 ∷ while 1 2 ∷ cpuexn 0 ∷ cpuexn 1 ∷ [])) gives 7 at 1)
    ∷ (check (with (word 1 0 ∷ word 1 0 ∷ []) (while 0 3 ∷ if 1 1 1 ∷ cpuexn 0 ∷ cpuexn 1 ∷ [])) gives 0 at 0)
    ∷ (check (with (word 1 0 ∷ word 1 0 ∷ []) (while 0 3 ∷ if 1 1 2 ∷ cpuexn 0 ∷ cpuexn 1 ∷ [])) gives 7 at 1)
    ∷ []

start_rows : List Row
unfolding ◌gives◌at◌ begun
start_rows =
    -- "log count over its room"
    (run (begun (0 ∷ 0 ∷ []) (0 ∷ 8 ∷ 0 ∷ 0 ∷ []) 1 0) gives 0 at 0)
    ∷ (run (begun (0 ∷ 0 ∷ []) (0 ∷ 8 ∷ 0 ∷ 0 ∷ []) 2 0) gives 16 at 2)
    -- "next address not below 2^A"
    ∷ (run (begun (0 ∷ 0 ∷ []) [] 0 0xff) gives 0 at 0)
    ∷ (run (begun (0 ∷ 0 ∷ []) [] 0 0x100) gives 16 at 3)
    -- "address width (1 to 64)" and "the address is below 2^width", of an entry
    ∷ (run (begun (0 ∷ 0 ∷ []) (0 ∷ 64 ∷ 0xffffffffffffffff ∷ 0 ∷ 0 ∷ 1 ∷ 1 ∷ 0 ∷ []) 2 0) gives 0 at 0)
    ∷ (run (begun (0 ∷ 0 ∷ []) (0 ∷ 65 ∷ 0 ∷ 0 ∷ []) 1 0) gives 17 at 1)
    ∷ (run (begun (0 ∷ 0 ∷ []) (0 ∷ 0 ∷ 0 ∷ 0 ∷ []) 1 0) gives 17 at 1)
    ∷ (run (begun (0 ∷ 0 ∷ []) (0 ∷ 1 ∷ 2 ∷ 0 ∷ []) 1 0) gives 17 at 1)
    -- "byte (0 to 255, or 256 unknown)"
    ∷ (run (begun (0 ∷ 0 ∷ []) (0 ∷ 8 ∷ 0 ∷ 256 ∷ []) 1 0) gives 0 at 0)
    ∷ (run (begun (0 ∷ 0 ∷ []) (0 ∷ 8 ∷ 0 ∷ 257 ∷ []) 1 0) gives 17 at 1)
    -- "1,word that fits, for an immediate"
    ∷ (run (begun (1 ∷ 0xff ∷ []) [] 0 0) gives 0 at 0)
    ∷ (run (begun (1 ∷ 0x100 ∷ []) [] 0 0) gives 18 at 0)
    ∷ []

pub rows : List Row
unfolding header_rows variable_rows expression_rows body_rows start_rows
rows = header_rows ++ (variable_rows ++ (expression_rows ++ (body_rows ++ start_rows)))

pub table : map (λ (r : Row). answer r.ask) rows ≡ map (λ (r : Row). r.gives) rows
unfolding answer rows Types.check result Results.code_of Results.place_of
table = refl
