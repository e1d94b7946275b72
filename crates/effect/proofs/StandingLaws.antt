-- Blocks and statements of an accepted table: that a block may be run, and a statement's fields by its op. Assumes nothing.
use mathlib.Core.Path.{◌≡◌}
use mathlib.Core.List.{List}
use Prim.Native.Nat.{ℕ, suc, ◌<◌}
use native.Mathlib.Omega.{arith}
use Rattle.table.specs.Bytes.{header, variable, statement}
use Rattle.table.specs.Records.{RecordsHold}
use Rattle.table.specs.Decode.{context, block_at}
use Rattle.table.specs.Syntax.{Block}
use Rattle.table.proofs.View.{Reads, r_move, r_jmp, r_cpuexn, r_special, r_while, r_if}
use Rattle.table.proofs.Program.{block_reads, program_reads}
use Rattle.table.specs.Asked.{IsBlock}
use Rattle.table.proofs.ExpressionLaws.{expr_view}
use Rattle.typing.specs.Typing.{Ok, TypingHolds}
use Rattle.typing.proofs.BlockLaws.{statements_ok_iff, type_rules-iff}
use Rattle.evaluation.proofs.Formed.{FormedBlock, formed_block}
use Rattle.effect.specs.Leaving.{Standing}

-- ------------------------------------------------------------------------------------------------
-- Blocks

-- what a run keeps its state by
pub record Good (s : List ℕ) (b : Block) : Type 0 where
  pub typed : Ok (context s) (header s).width b
  pub formed : FormedBlock s b

pub block_good : {s : List ℕ} → RecordsHold s → TypingHolds s → (n l : ℕ) → IsBlock s n l → Good s (block_at s n l)
block_good {s} records typing n l block =
    let reads = block_reads records n l block in
    record {
      typed =
          (statements_ok_iff reads).0
          (λ i p q. ((type_rules-iff (program_reads records)).1 typing).1 i (omega (arith, block.inside)));
      formed = formed_block (expr_view records) reads;
    }

-- ------------------------------------------------------------------------------------------------
-- Statements, by their ops

module _ {s : List ℕ} (records : RecordsHold s) {i : ℕ} (at : Standing s i) where
  pub inside : i < (header s).statements
  inside = omega (arith, at.block.inside)

  reads : Reads s i (suc at.behind) (block_at s i (suc at.behind))
  reads = block_reads records i (suc at.behind) at.block

  pub move_fields : (statement s i).op ≡ 1
      → ((statement s i).a < (header s).variables) × ((variable s (statement s i).a).role ≡ 0) × ((statement s i).b < (header s).expressions)
  move_fields op = go reads
    where
      go : {k : Block} → Reads s i (suc at.behind) k
          → ((statement s i).a < (header s).variables) × ((variable s (statement s i).a).role ≡ 0) × ((statement s i).b < (header s).expressions)
      go (r_move o a r b k) = (a, r, b)
      go (r_jmp o a k) = absurd (omega arith)
      go (r_cpuexn o k) = absurd (omega arith)
      go (r_special o k) = absurd (omega arith)
      go (r_while o a l h b k) = absurd (omega arith)
      go (r_if o a l h b c k) = absurd (omega arith)

  -- a jump's expression, and a guard
  pub read_field : ((statement s i).op ≡ 1 → ⊥) → ((statement s i).op ≡ 3 → ⊥) → ((statement s i).op ≡ 4 → ⊥) → (statement s i).a < (header s).expressions
  read_field n1 n3 n4 = go reads
    where
      go : {k : Block} → Reads s i (suc at.behind) k → (statement s i).a < (header s).expressions
      go (r_move o a r b k) = absurd (n1 o)
      go (r_jmp o a k) = a
      go (r_cpuexn o k) = absurd (n3 o)
      go (r_special o k) = absurd (n4 o)
      go (r_while o a l h b k) = a
      go (r_if o a l h b c k) = a

  -- any other is a cpuexn or a special
  pub other_op :
      {X : Type 0} → ((statement s i).op ≡ 1 → ⊥) → ((statement s i).op ≡ 2 → ⊥) → ((statement s i).op ≡ 5 → ⊥) → ((statement s i).op ≡ 6 → ⊥)
      → ((statement s i).op ≡ 3 → X) → ((statement s i).op ≡ 4 → X) → X
  other_op {X} n1 n2 n5 n6 f g = go reads
    where
      go : {k : Block} → Reads s i (suc at.behind) k → X
      go (r_move o a r b k) = absurd (n1 o)
      go (r_jmp o a k) = absurd (n2 o)
      go (r_cpuexn o k) = f o
      go (r_special o k) = g o
      go (r_while o a l h b k) = absurd (n5 o)
      go (r_if o a l h b c k) = absurd (n6 o)
