-- The two loops: a block's statements, and a while's turns. Assumes nothing.
use mathlib.Core.Path.{◌≡◌, refl, ap, ap₂, subst, ◌∙◌}
use mathlib.Core.List.{List}
use Prim.Native.Nat.{ℕ, suc, ◌+◌, ◌-◌, ◌≤◌, ◌<◌}
use native.Mathlib.Omega.{arith}
use Rattle.std.specs.Prelude.{Result, Ok, Err, ⊤}
use Rattle.table.specs.declared.Node.{Node}
use Rattle.table.specs.Bytes.{statement}
use Rattle.table.specs.Decode.{context, block_at}
use Rattle.table.specs.Syntax as S
use Rattle.table.specs.Syntax.{Block, ◌then◌}
use Rattle.table.proofs.BlockLaws.{block_none}
use Rattle.table.specs.Asked.{IsBlock}
use Rattle.memory.specs.Buffer.{held, room_of}
use Rattle.running.specs.declared.Ending.TheVariants.{Done}
use Rattle.running.specs.Run.{Left}
use Rattle.evaluate.proofs.WentLaws.{went_trans}
use Rattle.effect.specs.declared.Halt.{Halt}
use Rattle.effect.specs.declared.Machine.{Machine}
use Rattle.effect.specs.Leaving.{Running, Standing, RunLeaves, runs}
use Rattle.effect.proofs.StandingLaws.{Good}
use Rattle.effect.proofs.LeavingLaws.{leaves_left}
use Rattle.effect.proofs.AloneLaws.{run_end}
use Rattle.execute.specs.Extent.{bodies_of}
use Rattle.execute.proofs.ThenLaws.{onward, run_then}
use Rattle.execute.proofs.SplitLaws.{bodies_fit, rest_block, split, first_good}
use Rattle.execute.proofs.EndedLaws.{ends, goes_onward, halts_onward, Came, came_first, comes_to_end}

-- ------------------------------------------------------------------------------------------------
-- One block and then another, from where a run has come to

module _ {s : List ℕ} {m₀ m : Machine} {t₀ t : ℕ} {whole : Left} (b k : Block) (c : Came s m₀ t₀ whole (b then k) m t) (good : Good s b) where
  so_far : whole ≡ onward (context s) (room_of m.log.now) (runs s m t b) k
  so_far = c.same ∙ run_then (context s) (room_of m.log.now) t b k m.state.now (held m.log.now) m.next

  pub done_then : {q : Machine} {u : ⊤} → RunLeaves m (runs s m t b) (Ok u) q → Came s m₀ t₀ whole k q q.ticks
  done_then leaves =
      let e = ends t c.running good leaves in
      let less = e.fewer in
      let before = c.fewer in
      record {
        running = e.again;
        went = went_trans c.went e.went;
        fewer = omega arith;
        same = so_far ∙ goes_onward k e;
        state = leaves.same ∙ c.state;
        log = leaves.same_log ∙ c.log;
      }

  pub halted_then : {q : Machine} {h : Halt} → RunLeaves m (runs s m t b) (Err h) q → RunLeaves m₀ whole (Err h) q
  halted_then leaves =
      let e = ends t c.running good leaves in
      comes_to_end (record { running = c.running; went = c.went; fewer = c.fewer; same = so_far ∙ halts_onward k e; state = c.state; log = c.log }) good leaves

-- a run that has come to the end of a block
pub came_ends : {s : List ℕ} {m₀ m : Machine} {t₀ : ℕ} {whole : Left} → Came s m₀ t₀ whole S.end m m.ticks → RunLeaves m₀ whole (Ok tt) m
came_ends {s} {m = m} c =
    leaves_left Done c.went (c.same ∙ run_end (context s) (room_of m.log.now) m.ticks m.state.now (held m.log.now) m.next) refl c.state c.log

-- ------------------------------------------------------------------------------------------------
-- The statements of a block that ends before `end`

pub record Going (s : List ℕ) (m₀ : Machine) (t₀ : ℕ) (whole : Left) (end i : ℕ) (m : Machine) : Type 0 where
  pub before : i ≤ end
  pub block : IsBlock s i (end - i)
  pub came : Came s m₀ t₀ whole (block_at s i (end - i)) m m.ticks

pub going_first : {s : List ℕ} {m : Machine} (from size : ℕ) → Running s m → IsBlock s from size
    → Going s m m.ticks (runs s m m.ticks (block_at s from size)) (from + size) from m
going_first {s} {m} from size here block =
    let same : size ≡ from + size - from = omega arith in
    record {
      before = omega arith;
      block = subst (IsBlock s from) same block;
      came =
          subst (λ (k : ℕ). Came s m m.ticks (runs s m m.ticks (block_at s from size)) (block_at s from k) m m.ticks) same
          (came_first m.ticks (block_at s from size) here);
    }

module _ {s : List ℕ} {m₀ m : Machine} {t₀ end i : ℕ} {whole : Left} (g : Going s m₀ t₀ whole end i m) where
  pub end_small : end ≤ 1024
  end_small =
      let all = g.block.inside in
      let most = g.came.running.framed.statements in
      let h = g.before in
      omega arith

  -- the end
  pub block_ends : end ≤ i → RunLeaves m₀ whole (Ok tt) m
  block_ends h =
      let none : end - i ≡ 0 = omega arith in
      came_ends (subst (λ (b : Block). Came s m₀ t₀ whole b m m.ticks) (ap (block_at s i) none ∙ block_none s i) g.came)

  module _ (h : i < end) where
    abbrev behind : ℕ
    behind = end - suc i

    here : IsBlock s i (suc behind)
    here = let e : end - i ≡ suc (end - suc i) = omega arith in subst (IsBlock s i) e g.block

    pub stands_at : Standing s i
    stands_at = record { behind = behind; block = here }

    abbrev bodies : ℕ
    bodies = bodies_of (statement s i)

    pub bodies_before : i + 1 + bodies_of (statement s i) ≤ end
    bodies_before = let f = bodies_fit g.came.running.records here in omega arith

    split_here : Came s m₀ t₀ whole (block_at s i (suc bodies) then block_at s (suc i + bodies) (behind - bodies)) m m.ticks
    split_here =
        let e : end - i ≡ suc (end - suc i) = omega arith in
        subst (λ (b : Block). Came s m₀ t₀ whole b m m.ticks) (ap (block_at s i) e ∙ split g.came.running.records here) g.came

    good_here : Good s (block_at s i (suc bodies))
    good_here = first_good g.came.running.records here g.came.running.typing

    module _ {r : Node} (is : r ≡ statement s i) {q : Machine} where
      leaves_first : {x : Result ⊤ Halt} → RunLeaves m (runs s m m.ticks (block_at s i (suc (bodies_of r)))) x q → RunLeaves m (runs s m m.ticks (block_at s i (suc bodies))) x q
      leaves_first {x} = subst (λ (k : Node). RunLeaves m (runs s m m.ticks (block_at s i (suc (bodies_of k)))) x q) is

      -- the statement is done
      pub block_goes_on : {u : ⊤} → RunLeaves m (runs s m m.ticks (block_at s i (suc (bodies_of r)))) (Ok u) q → {j : ℕ} → j ≡ i + 1 + bodies_of r → Going s m₀ t₀ whole end j q
      block_goes_on leaves {j} e =
          let f = bodies_before in
          let same : j ≡ i + 1 + bodies = e ∙ ap (λ (q : Node). i + 1 + bodies_of q) is in
          let at : suc i + bodies ≡ j = omega arith in
          let size : behind - bodies ≡ end - j = omega arith in
          record {
            before = omega arith;
            block = rest_block g.came.running.records here j (end - j) (omega arith) (omega arith);
            came =
                subst (λ (b : Block). Came s m₀ t₀ whole b q q.ticks) (ap₂ (block_at s) at size)
                (done_then (block_at s i (suc bodies)) (block_at s (suc i + bodies) (behind - bodies)) split_here good_here (leaves_first leaves));
          }

      pub block_halts : {k : Halt} → RunLeaves m (runs s m m.ticks (block_at s i (suc (bodies_of r)))) (Err k) q → RunLeaves m₀ whole (Err k) q
      block_halts leaves =
          halted_then (block_at s i (suc bodies)) (block_at s (suc i + bodies) (behind - bodies)) split_here good_here (leaves_first leaves)
