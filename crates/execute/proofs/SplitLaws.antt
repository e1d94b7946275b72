-- A block is its first statement, with its bodies, and then the rest. Assumes nothing.
use mathlib.Core.Path.{◌≡◌, refl, sym, ap, subst, ◌∙◌}
use mathlib.Core.List.{List}
use Prim.Native.Nat.{ℕ, suc, ◌+◌, ◌-◌, ◌≤◌, ◌<◌}
use native.Mathlib.Omega.{arith}
use Rattle.base.specs.declared.codes.Stop.TheVariants as Stops
use Rattle.table.specs.Bytes.{header, statement}
use Rattle.table.specs.Records.{RecordsHold}
use Rattle.table.specs.Decode.{Context, context, expr, block_at}
use Rattle.table.specs.Syntax as S
use Rattle.table.specs.Syntax.{Block, ◌then◌}
use Rattle.table.proofs.View.{Reads, r_move, r_jmp, r_cpuexn, r_special, r_while, r_if}
use Rattle.table.proofs.Program.{block_reads}
use Rattle.table.proofs.BlockLaws.{block_none, block_move, block_jmp, block_cpuexn, block_special, block_while, block_if}
use Rattle.table.specs.Asked.{IsBlock}
use Rattle.table.proofs.Nesting.{parts_by_op}
use Rattle.typing.specs.Typing.{TypingHolds}
use Rattle.memory.specs.Log.{Log}
use Rattle.running.specs.Run.{stop, run}
use Rattle.execute.specs.Extent.{bodies_of}
use Rattle.effect.proofs.StandingLaws.{Good, block_good}
use Rattle.execute.proofs.ThenLaws.{good_first}

-- statement i with m statements in its bodies, whatever stands behind it
record First (s : List ℕ) (i m : ℕ) : Type 0 where
  with_rest : Block → Block
  is : (l : ℕ) → block_at s i (suc l) ≡ with_rest (block_at s (suc i + m) (l - m))
  opens : (b k : Block) → (with_rest b then k) ≡ with_rest (b then k)
  needs_tick : (Γ : Context) (room : ℕ) (σ : List ℕ) (L : Log) (a : ℕ) (b : Block) → run Γ room 0 (with_rest b) σ L a ≡ stop Stops.NoTick i 0 σ L a

first_split : {s : List ℕ} {i m : ℕ} → First s i m → (l : ℕ) → block_at s i (suc l) ≡ (block_at s i (suc m) then block_at s (suc i + m) (l - m))
unfolding ◌then◌
first_split {s} {i} {m} f l =
    let rest : Block = block_at s (suc i + m) (l - m) in
    let none : m - m ≡ 0 = omega arith in
    f.is l
    ∙ sym (f.opens S.end rest)
    ∙ ap (λ (b : Block). f.with_rest b then rest) (sym (ap (block_at s (suc i + m)) none ∙ block_none s (suc i + m)))
    ∙ ap (λ (b : Block). b then rest) (sym (f.is m))

module _ (s : List ℕ) (i : ℕ) (inside : i < (header s).statements) where
  -- without a body
  no_body : (f : Block → Block) → ((l : ℕ) → block_at s i (suc l) ≡ f (block_at s (suc i + 0) l)) → ((b k : Block) → (f b then k) ≡ f (b then k))
      → ((Γ : Context) (room : ℕ) (σ : List ℕ) (L : Log) (a : ℕ) (b : Block) → run Γ room 0 (f b) σ L a ≡ stop Stops.NoTick i 0 σ L a) → First s i 0
  no_body f is opens tick = record {
    with_rest = f;
    is = λ l. let same : l ≡ l - 0 = omega arith in is l ∙ ap (λ (l : ℕ). f (block_at s (suc i + 0) l)) same;
    opens = opens;
    needs_tick = tick;
  }

  -- the number of statements in the bodies, by the op
  by_op : {op m : ℕ} → (statement s i).op ≡ op → bodies_of (record { op = op; sub = 0; p = 0; q = 0; a = 0; b = (statement s i).b; c = (statement s i).c }) ≡ m
      → First s i m → First s i (bodies_of (statement s i))
  by_op e p f =
      subst (First s i)
      (sym (ap (λ (op : ℕ). bodies_of (record { op = op; sub = 0; p = 0; q = 0; a = 0; b = (statement s i).b; c = (statement s i).c })) e ∙ p)) f

  first_by : {k : Block} {l : ℕ} → Reads s i (suc l) k → First s i (bodies_of (statement s i))
  unfolding ◌then◌ run
  first_by (r_move o a r b k) =
      by_op o refl (no_body (S.move i (statement s i).a (expr s (statement s i).b)) (λ l. block_move s i l inside o) (λ b k. refl) (λ Γ room σ L a b. refl))
  first_by (r_jmp o a k) = by_op o refl (no_body (S.jmp i (expr s (statement s i).a)) (λ l. block_jmp s i l inside o) (λ b k. refl) (λ Γ room σ L a b. refl))
  first_by (r_cpuexn o k) = by_op o refl (no_body (S.cpuexn i) (λ l. block_cpuexn s i l inside o) (λ b k. refl) (λ Γ room σ L a b. refl))
  first_by (r_special o k) = by_op o refl (no_body (S.special i) (λ l. block_special s i l inside o) (λ b k. refl) (λ Γ room σ L a b. refl))
  first_by (r_while o a l h b k) =
      by_op o (omega arith)
      (record {
        with_rest = S.while i (expr s (statement s i).a) (block_at s (suc i + 0) (statement s i).b);
        is = λ l. block_while s i l inside o;
        opens = λ b k. refl;
        needs_tick = λ Γ room σ L a b. refl;
      })
  first_by (r_if o a l h b c k) =
      by_op o refl
      (record {
        with_rest =
            S.if i (expr s (statement s i).a) (block_at s (suc i + 0) (statement s i).b)
            (block_at s (suc i + (statement s i).b) (statement s i).c);
        is = λ l. block_if s i l inside o;
        opens = λ b k. refl;
        needs_tick = λ Γ room σ L a b. refl;
      })

-- ------------------------------------------------------------------------------------------------
-- A block that isn't empty

module _ {s : List ℕ} (records : RecordsHold s) {i l : ℕ} (block : IsBlock s i (suc l)) where
  here : i < (header s).statements
  here = omega (arith, block.inside)

  pub bodies_fit : bodies_of (statement s i) ≤ l
  bodies_fit = (parts_by_op records block (statement s i).op refl).fit

  first : First s i (bodies_of (statement s i))
  first = first_by s i here (block_reads records i (suc l) block)

  -- 35: "tick needed, none left"
  pub no_tick : (room : ℕ) (σ : List ℕ) (L : Log) (a m : ℕ) → run (context s) room 0 (block_at s i (suc m)) σ L a ≡ stop Stops.NoTick i 0 σ L a
  no_tick room σ L a m =
      ap (λ (b : Block). run (context s) room 0 b σ L a) (first.is m) ∙ first.needs_tick (context s) room σ L a _

  -- the rest is a block
  pub rest_block : (m k : ℕ) → m ≡ suc i + bodies_of (statement s i) → bodies_of (statement s i) + k ≡ l → IsBlock s m k
  rest_block = (parts_by_op records block (statement s i).op refl).rest

  pub split : block_at s i (suc l) ≡ (block_at s i (suc (bodies_of (statement s i))) then block_at s (suc i + bodies_of (statement s i)) (l - bodies_of (statement s i)))
  split = first_split first l

  pub first_good : TypingHolds s → Good s (block_at s i (suc (bodies_of (statement s i))))
  first_good typing = good_first _ _ (subst (Good s) split (block_good records typing i (suc l) block))
