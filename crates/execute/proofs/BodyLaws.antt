-- Statements with bodies: a while and an if by their guard, from where a run has come to. Assumes nothing.
use mathlib.Core.Path.{◌≡◌, refl, sym, ap, ap₂, subst, ◌∙◌}
use mathlib.Core.Bool.{Bool, true, false, ◌||◌}
use mathlib.Core.List.{List}
use Prim.Native.Nat.{ℕ, suc, ◌+◌, ◌-◌, ◌<◌, ◌≤◌}
use native.Mathlib.Omega.{arith}
use lib.Dec.{eqb}
use borrow.Author.Tests.{ne_eqb}
use Rattle.std.specs.Prelude.{if◌then◌else◌}
use Rattle.std.specs.Prelude.{Result, Ok, Err, ⊤}
use Rattle.base.specs.declared.codes.Stop.TheVariants as Stops
use Rattle.table.specs.declared.Node.{Node}
use Rattle.table.specs.Bytes.{header, statement}
use Rattle.table.specs.Decode.{context, expr, block_at}
use Rattle.table.specs.Syntax as S
use Rattle.table.specs.Syntax.{Block, ◌then◌}
use Rattle.table.specs.Records.{RecordsHold}
use Rattle.table.proofs.BlockLaws.{block_none, block_while, block_if}
use Rattle.table.specs.Asked.{IsBlock}
use Rattle.table.proofs.Nesting.{parts_by_op}
use Rattle.memory.specs.Log.{Log}
use Rattle.memory.specs.Buffer.{held, room_of}
use Rattle.running.specs.declared.Ending.TheVariants.{Stopped}
use Rattle.running.specs.Run.{Left, left, stop, run}
use Rattle.running.specs.Standing.{Stands}
use Rattle.running.proofs.PairLaws.{state_stays}
use Rattle.evaluate.proofs.WentLaws.{same_room, went_trans}
use Rattle.effect.specs.declared.Halt.{Halt}
use Rattle.effect.specs.declared.Machine.{Machine}
use Rattle.effect.specs.Leaving.{Running, Standing, RunLeaves, evaluated, runs}
use Rattle.effect.proofs.StandingLaws.{Good, block_good, inside, read_field}
use Rattle.effect.proofs.LeavingLaws.{leaves_left}
use Rattle.execute.specs.Begun.{Begins, GuardLeaves}
use Rattle.execute.specs.Extent.{bodies_of}
use Rattle.execute.proofs.ThenLaws.{then_end}
use Rattle.execute.proofs.SplitLaws.{no_tick, first_good}
use Rattle.execute.proofs.EndedLaws.{ends, Came, came_first, came_begun, comes_to_end}
use Rattle.execute.proofs.LoopLaws.{done_then, halted_then, came_ends}
use Rattle.execute.proofs.TestLaws.{guarded, test_went, test_holds, test_fails, test_stops}

-- ------------------------------------------------------------------------------------------------
-- Without a tick

-- the statement isn't begun, and the machine is as it was
pub came_without : {s : List ℕ} {m₀ m q : Machine} {t₀ i : ℕ} {whole : Left} {r : Result ⊤ Halt} (n : ℕ) → Standing s i
    → Came s m₀ t₀ whole (block_at s i (suc n)) m m.ticks → (m.ticks ≡ 0) × ((r ≡ Err (record { code = Stops.NoTick; statement = i })) × (q ≡ m))
    → RunLeaves m₀ whole r q
unfolding stop
came_without {s} {m₀} {m} {i = i} {whole = whole} {r = r} n at c none =
    subst (λ (q : Machine). RunLeaves m₀ whole r q) (sym none.1.1)
    (subst (λ (r : Result ⊤ Halt). RunLeaves m₀ whole r m) (sym none.1.0)
    (leaves_left (Stopped Stops.NoTick i) c.went
    (c.same
    ∙ ap (λ (t : ℕ). runs s m t (block_at s i (suc n))) none.0
    ∙ no_tick c.running.records at.block (room_of m.log.now) m.state.now (held m.log.now) m.next n
    ∙ ap (λ (t : ℕ). left (Stopped Stops.NoTick i) t m.state.now (held m.log.now) m.next) (sym none.0)) refl c.state c.log))

-- ------------------------------------------------------------------------------------------------
-- A guard that was tested, where a run has come to its statement and has begun it

module _ {s : List ℕ} {m₀ m : Machine} {t₀ : ℕ} {whole : Left} {b : Block} (i : ℕ) (c : Came s m₀ t₀ whole b m (suc m.ticks)) (e : ℕ)
    (inside : e < (header s).expressions) (x y : Block)
    (form : runs s m (suc m.ticks) b
    ≡ guarded i m.ticks m.next m.state.now (λ M. run (context s) (room_of m.log.now) m.ticks x m.state.now M m.next)
    (λ M. run (context s) (room_of m.log.now) m.ticks y m.state.now M m.next) (evaluated s m.state.now m.log.now e)) where
  abbrev then_x : Log → Left
  then_x M = run (context s) (room_of m.log.now) m.ticks x m.state.now M m.next

  abbrev then_y : Log → Left
  then_y M = run (context s) (room_of m.log.now) m.ticks y m.state.now M m.next

  came_on : {q : Machine} {r : Result Bool Halt} (d : Block) → GuardLeaves m (evaluated s m.state.now m.log.now e) i r q → whole ≡ run (context s) (room_of m.log.now) m.ticks d m.state.now (held q.log.now) m.next
      → Came s m₀ t₀ whole d q q.ticks
  came_on {q} d tested p =
      let w = test_went c.running e inside tested in
      let rest = tested.rest in
      let here = c.running in
      let less = c.fewer in
      let ticks = rest.ticks in
      let stands : Stands s (room_of m.log.now) m.state.now (held q.log.now) m.next =
      record { state = state_stays w.on here.stands.state; log = w.log; next = here.stands.next } in
      record {
        running = record {
          framed = here.framed;
          records = here.records;
          typing = here.typing;
          stands = rw (same_room w, rest.state, rest.next) stands;
        };
        went = went_trans c.went w;
        fewer = omega arith;
        same = p ∙ rw (same_room w, rest.state, rest.next, rest.ticks) refl;
        state = rest.same ∙ c.state;
        log = rest.same_log ∙ c.log;
      }

  pub holds_came : {q : Machine} {t : Bool} → GuardLeaves m (evaluated s m.state.now m.log.now e) i (Ok t) q → t ≡ true → Came s m₀ t₀ whole x q q.ticks
  holds_came tested h = came_on x tested (c.same ∙ form ∙ test_holds c.running e inside m.ticks m.next then_x then_y tested h)

  pub fails_came : {q : Machine} {t : Bool} → GuardLeaves m (evaluated s m.state.now m.log.now e) i (Ok t) q → t ≡ false → Came s m₀ t₀ whole y q q.ticks
  fails_came tested h = came_on y tested (c.same ∙ form ∙ test_fails c.running e inside m.ticks m.next then_x then_y tested h)

  pub stops_leaves : {q : Machine} {h : Halt} → GuardLeaves m (evaluated s m.state.now m.log.now e) i (Err h) q → RunLeaves m₀ whole (Err h) q
  unfolding stop left
  stops_leaves {h} tested =
      let (p, n) = test_stops c.running e inside m.ticks m.next then_x then_y tested in
      let rest = tested.rest in
      leaves_left (Stopped h.code i) (went_trans c.went (test_went c.running e inside tested))
      (c.same ∙ form ∙ p ∙ rw (rest.ticks, rest.state, rest.next) refl)
      (ap (Stopped h.code) n) (rest.same ∙ c.state) (rest.same_log ∙ c.log)

-- ------------------------------------------------------------------------------------------------
-- By the op

module _ (s : List ℕ) (i : ℕ) {r : Node} (is : r ≡ statement s i) (op : r.op ≡ 5) (inside : i < (header s).statements) where
  op_is : (statement s i).op ≡ 5
  op_is = sym (ap (λ (q : Node). q.op) is) ∙ op

  -- a while alone
  pub while_alone : block_at s i (suc (bodies_of r)) ≡ S.while i (expr s r.a) (block_at s (i + 1) r.b) S.end
  while_alone =
      let size : bodies_of r ≡ r.b = ap (λ (op : ℕ). bodies_of (record { op = op; sub = 0; p = 0; q = 0; a = 0; b = r.b; c = r.c })) op ∙ omega arith in
      let none : r.b - r.b ≡ 0 = omega arith in
      let next : suc i + 0 ≡ i + 1 = omega arith in
      ap (λ (m : ℕ). block_at s i (suc m)) size
      ∙ subst (λ (q : Node). block_at s i (suc r.b) ≡ S.while i (expr s q.a) (block_at s (suc i + 0) q.b) (block_at s (suc i + q.b) (r.b - q.b))) (sym is)
      (block_while s i r.b inside op_is)
      ∙ ap₂ (S.while i (expr s r.a)) (ap (λ (at : ℕ). block_at s at r.b) next) (ap (block_at s (suc i + r.b)) none ∙ block_none s (suc i + r.b))

module _ (s : List ℕ) (i : ℕ) {r : Node} (is : r ≡ statement s i) (op : r.op ≡ 6) (inside : i < (header s).statements) where
  -- an if alone
  pub if_alone : block_at s i (suc (bodies_of r)) ≡ S.if i (expr s r.a) (block_at s (i + 1) r.b) (block_at s (i + 1 + r.b) r.c) S.end
  if_alone =
      let size : bodies_of r ≡ r.b + r.c = ap (λ (op : ℕ). bodies_of (record { op = op; sub = 0; p = 0; q = 0; a = 0; b = r.b; c = r.c })) op in
      let none : r.b + r.c - (r.b + r.c) ≡ 0 = omega arith in
      let next : suc i + 0 ≡ i + 1 = omega arith in
      let second : suc i + r.b ≡ i + 1 + r.b = omega arith in
      ap (λ (m : ℕ). block_at s i (suc m)) size
      ∙ subst (λ (q : Node). block_at s i (suc (r.b + r.c))
      ≡ S.if i (expr s q.a) (block_at s (suc i + 0) q.b) (block_at s (suc i + q.b) q.c) (block_at s (suc i + (q.b + q.c)) (r.b + r.c - (q.b + q.c)))) (sym is)
      (block_if s i (r.b + r.c) inside (sym (ap (λ (q : Node). q.op) is) ∙ op))
      ∙ ap (λ (b : Block). S.if i (expr s r.a) b (block_at s (suc i + r.b) r.c) (block_at s (suc i + (r.b + r.c)) (r.b + r.c - (r.b + r.c)))) (ap (λ (at : ℕ). block_at s at r.b) next)
      ∙ ap₂ (S.if i (expr s r.a) (block_at s (i + 1) r.b)) (ap (λ (at : ℕ). block_at s at r.c) second)
      (ap (block_at s (suc i + (r.b + r.c))) none ∙ block_none s (suc i + (r.b + r.c)))

-- ------------------------------------------------------------------------------------------------
-- A while or an if that is begun

module _ {s : List ℕ} {i : ℕ} {r : Node} (records : RecordsHold s) (at : Standing s i) (is : r ≡ statement s i) {k : ℕ} (op : r.op ≡ k) where
  read_op : (statement s i).op ≡ k
  read_op = sym (ap (λ (q : Node). q.op) is) ∙ op

  pub guard_inside : 4 < k → r.a < (header s).expressions
  guard_inside high =
      let o = read_op in
      subst (λ (q : Node). q.a < (header s).expressions) (sym is) (read_field records at (omega arith) (omega arith) (omega arith))

  first-body : IsBlock s (i + 1) (if eqb k 5 || eqb k 6 then r.b else 0)
  first-body =
      let next : suc i ≡ i + 1 = omega arith in
      subst (λ (at : ℕ). IsBlock s at (if eqb k 5 || eqb k 6 then r.b else 0)) next
      (subst (λ (q : Node). IsBlock s (suc i) (if eqb k 5 || eqb k 6 then q.b else 0)) (sym is) (parts_by_op records at.block k read_op).first_body)

-- statement i, of an op, is begun: a run has come to it, and has taken a tick for it
pub record Begun (op : ℕ) (s : List ℕ) (m₀ : Machine) (t₀ : ℕ) (whole : Left) (i : ℕ) (r : Node) (m : Machine) : Type 0 where
  pub at : Standing s i
  pub is : r ≡ statement s i
  pub by : r.op ≡ op
  pub came : Came s m₀ t₀ whole (block_at s i (suc (bodies_of r))) m (suc m.ticks)

pub begun : {op : ℕ} {s : List ℕ} {m₀ m q : Machine} {t₀ i : ℕ} {whole : Left} {r : Node} → Standing s i → r ≡ statement s i → r.op ≡ op
    → Came s m₀ t₀ whole (block_at s i (suc (bodies_of r))) m m.ticks → Begins m q → Begun op s m₀ t₀ whole i r q
begun at is op came h = record { at = at; is = is; by = op; came = came_begun came h }

-- where a tick is left it can be begun
pub tick_begins : {m : Machine} → (m.ticks ≡ 0 → ⊥) → Begins m (record { state = m.state; log = m.log; ticks = m.ticks - 1; next = m.next })
tick_begins some = record { ticks = omega (arith, some); state = refl; log = refl; next = refl }

-- an if is begun, from the start
pub if_begun : {s : List ℕ} {m q : Machine} {i : ℕ} {r : Node} → Running s m → Standing s i → r ≡ statement s i → r.op ≡ 6 → Begins m q
    → Begun 6 s m m.ticks (runs s m m.ticks (block_at s i (suc (bodies_of r)))) i r q
if_begun {s} {m} {i = i} {r = r} here at is op = begun at is op (came_first m.ticks (block_at s i (suc (bodies_of r))) here)

-- a while is begun, at a turn
pub turn_begun : {s : List ℕ} {m₀ m q : Machine} {t₀ i : ℕ} {whole : Left} {r : Node} → Standing s i → r ≡ statement s i → r.op ≡ 5
    → Came s m₀ t₀ whole (block_at s i (suc (bodies_of r))) m m.ticks → Begins m q → Begun 5 s m₀ t₀ whole i r q
turn_begun = begun

module _ {op : ℕ} {s : List ℕ} {m₀ m : Machine} {t₀ i : ℕ} {whole : Left} {r : Node} (h : Begun op s m₀ t₀ whole i r m) where
  abbrev table : RecordsHold s
  table = h.came.running.records

  here : i < (header s).statements
  here = inside table h.at

  pub guard : 4 < op → r.a < (header s).expressions
  guard = guard_inside table h.at h.is h.by

  -- what its test leaves
  abbrev Tested : Result Bool Halt → Machine → Type 0
  Tested = GuardLeaves m (evaluated s m.state.now m.log.now r.a) i

-- ------------------------------------------------------------------------------------------------
-- The turns of a while

module _ {s : List ℕ} {m₀ m : Machine} {t₀ i : ℕ} {whole : Left} {r : Node} (h : Begun 5 s m₀ t₀ whole i r m) where
  abbrev again : Block
  again = block_at s i (suc (bodies_of r))

  -- the body
  pub while_body : IsBlock s (i + 1) r.b
  while_body = first-body (table h) h.at h.is h.by

  good_body : Good s (block_at s (i + 1) r.b)
  good_body = block_good (table h) h.came.running.typing (i + 1) r.b while_body

  form : runs s m (suc m.ticks) again
      ≡ guarded i m.ticks m.next m.state.now
      (λ M. run (context s) (room_of m.log.now) m.ticks (block_at s (i + 1) r.b then again) m.state.now M m.next)
      (λ M. run (context s) (room_of m.log.now) m.ticks S.end m.state.now M m.next) (evaluated s m.state.now m.log.now r.a)
  unfolding run
  form =
      let alone = while_alone s i h.is h.by (here h) in
      ap (runs s m (suc m.ticks)) alone
      ∙ ap (λ (w : Block). guarded i m.ticks m.next m.state.now
      (λ M. run (context s) (room_of m.log.now) m.ticks (block_at s (i + 1) r.b then w) m.state.now M m.next)
      (λ M. run (context s) (room_of m.log.now) m.ticks S.end m.state.now M m.next) (evaluated s m.state.now m.log.now r.a)) (sym alone)

  pub while_fails : {q : Machine} {t : Bool} → Tested h (Ok t) q → t ≡ false → RunLeaves m₀ whole (Ok tt) q
  while_fails tested f = came_ends (fails_came i h.came r.a (guard h (omega arith)) (block_at s (i + 1) r.b then again) S.end form tested f)

  pub while_stops : {q : Machine} {k : Halt} → Tested h (Err k) q → RunLeaves m₀ whole (Err k) q
  while_stops = stops_leaves i h.came r.a (guard h (omega arith)) (block_at s (i + 1) r.b then again) S.end form

  module _ {q : Machine} {t : Bool} (tested : Tested h (Ok t) q) (holds : t ≡ true) where
    turn : Came s m₀ t₀ whole (block_at s (i + 1) r.b then again) q q.ticks
    turn = holds_came i h.came r.a (guard h (omega arith)) (block_at s (i + 1) r.b then again) S.end form tested holds

    pub while_running : Running s q
    while_running = turn.running

    module _ {p : Machine} where
      pub while_again : {u : ⊤} → RunLeaves q (runs s q q.ticks (block_at s (i + 1) r.b)) (Ok u) p → Came s m₀ t₀ whole again p p.ticks
      while_again = done_then (block_at s (i + 1) r.b) again turn good_body

      pub while_halts : {k : Halt} → RunLeaves q (runs s q q.ticks (block_at s (i + 1) r.b)) (Err k) p → RunLeaves m₀ whole (Err k) p
      while_halts = halted_then (block_at s (i + 1) r.b) again turn good_body

      pub while_fewer : {u : ⊤} → RunLeaves q (runs s q q.ticks (block_at s (i + 1) r.b)) (Ok u) p → p.ticks ≤ q.ticks
      while_fewer body = (ends q.ticks turn.running good_body body).fewer

-- ------------------------------------------------------------------------------------------------
-- An if

-- a body that is the rest of the whole
body_leaves : {s : List ℕ} {m₀ m q : Machine} {t₀ : ℕ} {whole : Left} {x : Result ⊤ Halt} (from size : ℕ) → IsBlock s from size
    → Came s m₀ t₀ whole (block_at s from size) m m.ticks → RunLeaves m (runs s m m.ticks (block_at s from size)) x q → RunLeaves m₀ whole x q
body_leaves from size block c = comes_to_end c (block_good c.running.records c.running.typing from size block)

module _ {s : List ℕ} {m₀ m : Machine} {t₀ i : ℕ} {whole : Left} {r : Node} (h : Begun 6 s m₀ t₀ whole i r m) where
  pub then_block : IsBlock s (i + 1) r.b
  then_block = first-body (table h) h.at h.is h.by

  pub else_block : IsBlock s (i + 1 + r.b) r.c
  else_block =
      let next : suc i + r.b ≡ i + 1 + r.b = omega arith in
      subst (λ (at : ℕ). IsBlock s at r.c) next
      (subst (λ (q : Node). IsBlock s (suc i + q.b) q.c) (sym h.is)
      (parts_by_op (table h) h.at.block 6 (read_op (table h) h.at h.is h.by)).second_body)

  abbrev first : Block
  first = block_at s (i + 1) r.b then S.end

  abbrev second : Block
  second = block_at s (i + 1 + r.b) r.c then S.end

  shape : runs s m (suc m.ticks) (block_at s i (suc (bodies_of r)))
      ≡ guarded i m.ticks m.next m.state.now
      (λ M. run (context s) (room_of m.log.now) m.ticks first m.state.now M m.next)
      (λ M. run (context s) (room_of m.log.now) m.ticks second m.state.now M m.next) (evaluated s m.state.now m.log.now r.a)
  unfolding run
  shape = ap (runs s m (suc m.ticks)) (if_alone s i h.is h.by (here h))

  pub if_stops : {q : Machine} {k : Halt} → Tested h (Err k) q → RunLeaves m₀ whole (Err k) q
  if_stops = stops_leaves i h.came r.a (guard h (omega arith)) first second shape

  module _ {q : Machine} {t : Bool} (tested : Tested h (Ok t) q) where
    pub then_came : t ≡ true → Came s m₀ t₀ whole (block_at s (i + 1) r.b) q q.ticks
    then_came holds =
        subst (λ (b : Block). Came s m₀ t₀ whole b q q.ticks) (then_end (block_at s (i + 1) r.b))
        (holds_came i h.came r.a (guard h (omega arith)) first second shape tested holds)

    pub else_came : t ≡ false → Came s m₀ t₀ whole (block_at s (i + 1 + r.b) r.c) q q.ticks
    else_came fails =
        subst (λ (b : Block). Came s m₀ t₀ whole b q q.ticks) (then_end (block_at s (i + 1 + r.b) r.c))
        (fails_came i h.came r.a (guard h (omega arith)) first second shape tested fails)

    module _ {p : Machine} {x : Result ⊤ Halt} where
      pub then_leaves : t ≡ true → RunLeaves q (runs s q q.ticks (block_at s (i + 1) r.b)) x p → RunLeaves m₀ whole x p
      then_leaves holds = body_leaves (i + 1) r.b then_block (then_came holds)

      pub else_leaves : t ≡ false → RunLeaves q (runs s q q.ticks (block_at s (i + 1 + r.b) r.c)) x p → RunLeaves m₀ whole x p
      else_leaves fails = body_leaves (i + 1 + r.b) r.c else_block (else_came fails)

-- ------------------------------------------------------------------------------------------------
-- A statement without a body

pub single_leaves : {s : List ℕ} {m₀ m q : Machine} {t₀ i : ℕ} {whole : Left} {r : Node} {x : Result ⊤ Halt} → Standing s i → r ≡ statement s i
    → Came s m₀ t₀ whole (block_at s i (suc (bodies_of r))) m (suc m.ticks) → (r.op ≡ 5 → ⊥) → (r.op ≡ 6 → ⊥)
    → RunLeaves m (runs s m (suc m.ticks) (block_at s i 1)) x q → RunLeaves m₀ whole x q
single_leaves {s} {m₀} {m} {t₀ = t₀} {i = i} {whole = whole} {r = r} at is c n5 n6 =
    let b : bodies_of r ≡ 0 =
    ap₂ (λ (u v : Bool). (if u || v then r.b else 0) + (if v then r.c else 0)) (ne_eqb r.op 5 n5) (ne_eqb r.op 6 n6) in
    let good : Good s (block_at s i (suc (bodies_of r))) =
    subst (λ (k : Node). Good s (block_at s i (suc (bodies_of k)))) (sym is) (first_good c.running.records at.block c.running.typing) in
    comes_to_end (subst (λ (k : ℕ). Came s m₀ t₀ whole (block_at s i (suc k)) m (suc m.ticks)) b c)
    (subst (λ (k : ℕ). Good s (block_at s i (suc k))) b good)
