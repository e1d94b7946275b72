-- The program of a table whose records hold is its statements, each block read to where it ends. Assumes nothing.
use mathlib.Core.Path.{◌≡◌, refl, subst}
use mathlib.Core.Bool.{true}
use mathlib.Core.List.{List}
use Prim.Native.Nat.{ℕ, zero, suc, ◌+◌, ◌-◌, ◌≤◌, ◌<◌}
use native.Mathlib.Omega.{arith}
use lib.ListN.{get_or}
use borrow.Author.Tests.{leb-true}
use Rattle.base.specs.Numbered.{numbered}
use Rattle.base.proofs.BoolLaws.{and_left}
use Rattle.base.proofs.NumberedLaws.{All, end, ◌then◌, numbered_all}
use Rattle.table.specs.Bytes.{header, statement}
use Rattle.table.specs.Fields as F
use Rattle.table.specs.Fields.{Row, no_row, statement_rows, statement_row}
use Rattle.table.specs.Records.{field_ok}
use Rattle.table.specs.Decode.{expr, starters, starting_at, blocks, block_at, program}
use Rattle.table.specs.Syntax as S
use Rattle.table.specs.Syntax.{Block}
use Rattle.table.specs.Records.{RecordsHold}
use Rattle.table.proofs.View.{Reads, r_end, r_move, r_jmp, r_cpuexn, r_special, r_while, r_if}
use Rattle.table.proofs.FieldLaws.{FieldsHold, fields_hold, no-row, operand_field, state_field}
use Rattle.table.specs.Asked.{IsBlock}
use Rattle.table.proofs.Nesting.{Parts, parts_by_op, whole_block}

-- ------------------------------------------------------------------------------------------------
-- A statement by its op, where the blocks behind it are read

module _ {s : List ℕ} (holds : RecordsHold s) {n l : ℕ} (block : IsBlock s n (suc l)) (on : ℕ → ℕ → Block)
    (behind : (m k at : ℕ) → at ≡ suc n + m → IsBlock s at k → Reads s at k (on m k)) where
  after_none : Parts s n l 0 0 → Reads s (suc n) l (on 0 l)
  after_none p = behind 0 l (suc n) (omega arith) (p.rest (suc n) l (omega arith) (omega arith))

  after_one : {b : ℕ} → Parts s n l b 0 → Reads s (suc n + b) (l - b) (on b (l - b))
  after_one {b} p = behind b (l - b) (suc n + b) refl (p.rest (suc n + b) (l - b) (omega arith) (omega (arith, p.fit)))

  after_two : {b c : ℕ} → Parts s n l b c → Reads s (suc n + (b + c)) (l - (b + c)) (on (b + c) (l - (b + c)))
  after_two {b} {c} p =
      behind (b + c) (l - (b + c)) (suc n + (b + c)) refl (p.rest (suc n + (b + c)) (l - (b + c)) refl (omega (arith, p.fit)))

  first-body : {b c : ℕ} → Parts s n l b c → Reads s (suc n) b (on 0 b)
  first-body {b} p = behind 0 b (suc n) (omega arith) p.first_body

  second-body : {b c : ℕ} → Parts s n l b c → Reads s (suc n + b) c (on b c)
  second-body {b} {c} p = behind b c (suc n + b) refl p.second_body

  one_fits : {b : ℕ} → Parts s n l b 0 → b ≤ l
  one_fits p = omega (arith, p.fit)

  -- what a row makes of statement n, where it is the row of its op
  ReadBy : ℕ → Row → Type 0
  ReadBy k f =
      (statement s n).op ≡ k → FieldsHold s (header s).expressions f (statement s n)
      → Reads s n (suc l) (numbered (λ r e n l on. S.end) starters k (statement s n) (expr s) n l on)

  operand : (k : ℕ) → field_ok s (header s).expressions F.operand k ≡ true → k < (header s).expressions
  operand = operand_field s (header s).expressions

  rows_read : All ReadBy statement_rows
  unfolding ReadBy statement_rows starters
  rows_read =
      let r = statement s n in
      let target = state_field s (header s).expressions r.a in
      let parts = parts_by_op holds block in
      (λ op f. r_move op (target f.a).0 (target f.a).1 (operand r.b f.b) (after_none (parts 1 op)))
      then (λ op f. r_jmp op (operand r.a f.a) (after_none (parts 2 op)))
      then (λ op f. r_cpuexn op (after_none (parts 3 op)))
      then (λ op f. r_special op (after_none (parts 4 op)))
      then (λ op f. r_while op (operand r.a f.a) (leb-true 1 r.b f.also) (one_fits (parts 5 op)) (first-body (parts 5 op)) (after_one (parts 5 op)))
      then (λ op f. r_if op (operand r.a f.a) (leb-true 1 r.b f.also) (parts 6 op).fit (first-body (parts 6 op)) (second-body (parts 6 op))
      (after_two (parts 6 op)))
      then end

  read_at : (k : ℕ) → ReadBy k (numbered no_row statement_rows k)
  unfolding ReadBy
  read_at = numbered_all ReadBy no_row (λ k op f. absurd (no-row s (header s).expressions (statement s n) f)) statement_rows rows_read

-- ------------------------------------------------------------------------------------------------
-- The list of blocks, from the back

starting_reads :
    {s : List ℕ} → RecordsHold s → (n l : ℕ) (later : List (ℕ → Block))
    → ((m k at : ℕ) → at ≡ suc n + m → IsBlock s at k → Reads s at k (get_or later m (λ l. S.end) k))
    → IsBlock s n l → Reads s n l (starting_at s n later l)
unfolding starting_at statement_row ReadBy
starting_reads holds n zero later behind block = r_end
starting_reads {s} holds n (suc l) later behind block =
    read_at holds block (λ m. get_or later m (λ l. S.end)) behind (statement s n).op refl
    (fields_hold s (header s).expressions _ (statement s n) (and_left _ _ (holds.statements n (omega (arith, block.inside)))))

-- the block m statements into the last k
blocks_read :
    {s : List ℕ} → RecordsHold s → (k : ℕ) → k ≤ (header s).statements → (m l n : ℕ) → n + k ≡ (header s).statements + m
    → IsBlock s n l → Reads s n l (get_or (blocks s k) m (λ l. S.end) l)
unfolding blocks
blocks_read holds zero h m zero n e block = r_end
blocks_read holds zero h m (suc l) n e block = absurd (omega (arith, block.inside))
blocks_read {s} holds (suc k) h zero l n e block =
    let same : n ≡ (header s).statements - suc k = omega arith in
    subst (λ (at : ℕ). Reads s n l (starting_at s at (blocks s k) l)) same
    (starting_reads holds n l (blocks s k) (λ m j at p b. blocks_read holds k (omega arith) m j at (omega arith) b) block)
blocks_read holds (suc k) h (suc m) l n e block = blocks_read holds k (omega arith) m l n (omega arith) block

pub block_reads : {s : List ℕ} → RecordsHold s → (n l : ℕ) → IsBlock s n l → Reads s n l (block_at s n l)
unfolding block_at
block_reads {s} holds n l = blocks_read holds (header s).statements (omega arith) n l n (omega arith)

pub program_reads : {s : List ℕ} → RecordsHold s → Reads s 0 (header s).statements (program s)
unfolding program
program_reads {s} holds = block_reads holds 0 (header s).statements (whole_block s)
