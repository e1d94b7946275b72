-- What the functions of statements without bodies ask and leave. Assumes nothing.
use mathlib.Core.Path.{◌≡◌, refl, sym, ap, subst, ◌∙◌}
use mathlib.Core.List.{List, []}
use mathlib.Core.Option.{none, some}
use Prim.Native.Nat.{ℕ, suc, ◌+◌, ◌*◌, ◌<◌}
use native.Mathlib.Omega.{arith}
use lib.ListN.{length}
use Rattle.std.specs.Prelude.{Ok, Err}
use Rattle.base.specs.declared.codes.Stop.TheVariants as Stops
use Rattle.value.specs.declared.Value.{Value}
use Rattle.value.specs.declared.Value.TheVariants.{Word, Unknown, Memory}
use Rattle.table.specs.declared.Node.{Node}
use Rattle.table.specs.Bytes.{header, statement}
use Rattle.table.specs.Records.{RecordsHold}
use Rattle.table.specs.Decode.{block_at, context, expr}
use Rattle.memory.specs.Log.{Log}
use Rattle.memory.specs.Buffer.{held, room_of}
use Rattle.evaluation.specs.State.{moved}
use Rattle.evaluation.specs.Evaluation as E
use Rattle.running.specs.declared.Ending.{Ending}
use Rattle.running.specs.declared.Ending.TheVariants.{Done, Stopped}
use Rattle.running.specs.Run.{Left, left, stop, run, target}
use Rattle.evaluate.proofs.WentLaws.{Went}
use Rattle.effect.specs.declared.Halt.{Halt}
use Rattle.effect.specs.declared.Machine.{Machine}
use Rattle.effect.specs.Leaving.{Running, Standing, RunLeaves, ValueLeaves, evaluated, runs}
use Rattle.effect.proofs.AloneLaws.{move_value, move_stops, jmp_value, jmp_stops, cpuexn_alone, special_alone}
use Rattle.effect.proofs.LeavingLaws.{gave, stopped, leaves_left, stays}
use Rattle.effect.proofs.StandingLaws.{inside, move_fields, read_field, other_op}

module _ {s : List ℕ} {m : Machine} {i : ℕ} {r : Node} (here : Running s m) (at : Standing s i) (is : r ≡ statement s i) where
  op_is : {k : ℕ} → r.op ≡ k → (statement s i).op ≡ k
  op_is e = sym (ap (λ (q : Node). q.op) is) ∙ e

  abbrev alone : Left
  alone = runs s m (suc m.ticks) (block_at s i 1)

  here_inside : i < (header s).statements
  here_inside = inside here.records at

  -- an evaluation of expression e for it, that gave a value or stopped
  abbrev Gave : ℕ → Value → Machine → Type 0
  Gave e v q = ValueLeaves m (evaluated s m.state.now m.log.now e) i (Ok v) q

  abbrev Halts : ℕ → Halt → Machine → Type 0
  Halts e h q = ValueLeaves m (evaluated s m.state.now m.log.now e) i (Err h) q

  -- a run that stops there, as the evaluation did
  halted : {e : ℕ} {h : Halt} {q : Machine} → e < (header s).expressions → Halts e h q
      → (evaluated s m.state.now m.log.now e ≡ E.stopped h.code (held q.log.now) → alone ≡ stop h.code i m.ticks m.state.now (held q.log.now) m.next)
      → RunLeaves m alone (Err h) q
  unfolding stop left
  halted {e} {h} {q} k x f =
      let (w, (p, n)) = stopped here e k x in
      let rest = x.rest in
      leaves_left (Stopped h.code i) w (f p ∙ rw (rest.ticks, rest.state, rest.next) refl) (ap (λ (h : Halt). Stopped h.code h.statement) n) rest.same rest.same_log

  -- a move
  module _ (op : r.op ≡ 1) where
    fields : ((statement s i).a < (header s).variables) × ((statement s i).b < (header s).expressions)
    fields = let f = move_fields here.records at (op_is op) in (f.0, f.2)

    pub move_asks : (r.b < (header s).expressions) × (2 * r.a + 1 < length m.state.now)
    move_asks =
        let long = here.stands.state.size in
        let x : (statement s i).a < (header s).variables = fields.0 in
        subst (λ (q : Node). (q.b < (header s).expressions) × (2 * q.a + 1 < length m.state.now)) (sym is) (fields.1, omega arith)

    pub moves_not : {h : Halt} {q : Machine} → Halts r.b h q → RunLeaves m alone (Err h) q
    moves_not {h} {q} x =
        halted fields.1 (subst (λ (k : Node). Halts k.b h q) is x)
        (move_stops s i here_inside (room_of m.log.now) m.state.now (held m.log.now) m.ticks m.next (op_is op))

    pub moves_on : {v : Value} {p q : Machine} → Gave r.b v p → q.state.now ≡ moved p.state.now r.a v → q.state.ghost_name ≡ p.state.ghost_name
        → q.log ≡ p.log → q.ticks ≡ p.ticks → q.next ≡ p.next → RunLeaves m alone (Ok tt) q
    moves_on {v} {p} {q} x wrote same log ticks next =
        let (w, e) = gave here (statement s i).b fields.1 (subst (λ (k : Node). Gave k.b v p) is x) in
        let rest = x.rest in
        let state : q.state.now ≡ moved m.state.now (statement s i).a v =
        wrote ∙ ap (λ (σ : List ℕ). moved σ r.a v) rest.state ∙ ap (λ (k : Node). moved m.state.now k.a v) is in
        leaves_left Done (subst (λ (b : _). Went m.log.now b.now) (sym log) w)
        (move_value s i here_inside (room_of m.log.now) m.state.now (held m.log.now) m.ticks m.next (op_is op) e
        ∙ rw (ticks, rest.ticks, state, next, rest.next, log) refl) refl (same ∙ rest.same) (ap (λ (b : _). b.ghost_name) log ∙ rest.same_log)

  -- a jump
  module _ (op : r.op ≡ 2) where
    field : (statement s i).a < (header s).expressions
    field =
        let o = op_is op in
        read_field here.records at (omega arith) (omega arith) (omega arith)

    pub jump_asks : r.a < (header s).expressions
    jump_asks = subst (λ (q : Node). q.a < (header s).expressions) (sym is) field

    pub jumps_not : {h : Halt} {q : Machine} → Halts r.a h q → RunLeaves m alone (Err h) q
    jumps_not {h} {q} x =
        halted field (subst (λ (k : Node). Halts k.a h q) is x)
        (jmp_stops s i here_inside (room_of m.log.now) m.state.now (held m.log.now) m.ticks m.next (op_is op))

    module _ {v : Value} {p : Machine} (x : Gave r.a v p) where
      onward : Went m.log.now p.log.now × (alone ≡ elim (target v) [ none ↦ stop Stops.JumpUnknown i m.ticks m.state.now (held p.log.now) m.next | some d ↦ left Done m.ticks m.state.now (held p.log.now) d ])
      onward =
          let (w, e) = gave here (statement s i).a field (subst (λ (k : Node). Gave k.a v p) is x) in
          (w, jmp_value s i here_inside (room_of m.log.now) m.state.now (held m.log.now) m.ticks m.next (op_is op) e)

      pub jumps_on : {w d : ℕ} {q : Machine} → v ≡ Word w d → q.next ≡ d → q.state ≡ p.state → q.log ≡ p.log → q.ticks ≡ p.ticks
          → RunLeaves m alone (Ok tt) q
      unfolding target
      jumps_on {q = q} e next state log ticks =
          let (went, on) = onward in
          let rest = x.rest in
          let is : alone ≡ left Done m.ticks m.state.now (held p.log.now) _ = rw e at on in
          leaves_left Done (subst (λ (b : _). Went m.log.now b.now) (sym log) went) (is ∙ rw (ticks, rest.ticks, state, rest.state, next, log) refl) refl (rw (state, rest.same) refl) (ap (λ (b : _). b.ghost_name) log ∙ rest.same_log)

      pub jumps_nowhere : ((w d : ℕ) → v ≡ Word w d → ⊥) → RunLeaves m alone (Err (record { code = Stops.JumpUnknown; statement = i })) p
      unfolding stop left target
      jumps_nowhere never =
          let (went, on) = onward in
          let rest = x.rest in
          leaves_left (Stopped Stops.JumpUnknown i) went (on ∙ unknown v never ∙ rw (rest.ticks, rest.state, rest.next) refl) refl rest.same rest.same_log
        where
          unknown : (v : Value) → ((w d : ℕ) → v ≡ Word w d → ⊥)
              → elim (target v) [ none ↦ stop Stops.JumpUnknown i m.ticks m.state.now (held p.log.now) m.next | some d ↦ left Done m.ticks m.state.now (held p.log.now) d ]
              ≡ stop Stops.JumpUnknown i m.ticks m.state.now (held p.log.now) m.next
          unknown (Word w d) never = absurd (never w d refl)
          unknown (Unknown t) never = refl
          unknown (Memory w head) never = refl

  -- cpuexn and special
  pub passes : (r.op ≡ 1 → ⊥) → (r.op ≡ 2 → ⊥) → (r.op ≡ 5 → ⊥) → (r.op ≡ 6 → ⊥) → RunLeaves m alone (Ok tt) m
  passes n1 n2 n5 n6 =
      let same_op = ap (λ (q : Node). q.op) is in
      let unmoved = stays here in
      other_op here.records at (λ e. n1 (same_op ∙ e)) (λ e. n2 (same_op ∙ e)) (λ e. n5 (same_op ∙ e)) (λ e. n6 (same_op ∙ e))
      (λ e. leaves_left Done unmoved (cpuexn_alone s i here_inside (room_of m.log.now) m.state.now (held m.log.now) m.ticks m.next e) refl refl refl)
      (λ e. leaves_left Done unmoved (special_alone s i here_inside (room_of m.log.now) m.state.now (held m.log.now) m.ticks m.next e) refl refl refl)

-- ------------------------------------------------------------------------------------------------
-- A move's and a jump's run by the evaluation alone, and what they ask: laws that hold whatever the ways of the code are called

module _ (s : List ℕ) (i room t : ℕ) (σ : List ℕ) (L : Log) (a : ℕ) where
  abbrev pub ends_as : Ending → List ℕ → Log → ℕ → Left
  ends_as e τ M d = record { ending = e; remaining = t; state = τ; log = M; next = d }

  abbrev pub moving : E.Evaluated → Left
  moving x = elim x [ E.stopped code M ↦ ends_as (Stopped code i) σ M a | E.value v M ↦ ends_as Done (moved σ (statement s i).a v) M a ]

  abbrev pub going : Log → Value → Left
  going M v = elim v [
    | Word w d ↦ ends_as Done σ M d
    | Unknown t ↦ ends_as (Stopped Stops.JumpUnknown i) σ M a
    | Memory w head ↦ ends_as (Stopped Stops.JumpUnknown i) σ M a
  ]

  abbrev pub jumping : E.Evaluated → Left
  jumping x = elim x [ E.stopped code M ↦ ends_as (Stopped code i) σ M a | E.value v M ↦ going M v ]

  module _ (records : RecordsHold s) (at : Standing s i) where
    pub move_run : (statement s i).op ≡ 1 → run (context s) room (suc t) (block_at s i 1) σ L a ≡ moving (E.eval (context s) room σ (expr s (statement s i).b) [] L)
    unfolding stop left
    move_run op = go (E.eval (context s) room σ (expr s (statement s i).b) [] L) refl
      where
        go : (x : E.Evaluated) → E.eval (context s) room σ (expr s (statement s i).b) [] L ≡ x → run (context s) room (suc t) (block_at s i 1) σ L a ≡ moving x
        go (E.stopped code M) e = move_stops s i (inside records at) room σ L t a op e
        go (E.value v M) e = move_value s i (inside records at) room σ L t a op e

    pub jump_run : (statement s i).op ≡ 2 → run (context s) room (suc t) (block_at s i 1) σ L a ≡ jumping (E.eval (context s) room σ (expr s (statement s i).a) [] L)
    unfolding stop left target
    jump_run op = go (E.eval (context s) room σ (expr s (statement s i).a) [] L) refl
      where
        go : (x : E.Evaluated) → E.eval (context s) room σ (expr s (statement s i).a) [] L ≡ x → run (context s) room (suc t) (block_at s i 1) σ L a ≡ jumping x
        go (E.stopped code M) e = jmp_stops s i (inside records at) room σ L t a op e
        go (E.value (Word w d) M) e = jmp_value s i (inside records at) room σ L t a op e
        go (E.value (Unknown u) M) e = jmp_value s i (inside records at) room σ L t a op e
        go (E.value (Memory w head) M) e = jmp_value s i (inside records at) room σ L t a op e

module _ (s : List ℕ) (i : ℕ) (records : RecordsHold s) (at : Standing s i) where
  pub move_value_inside : (statement s i).op ≡ 1 → (statement s i).b < (header s).expressions
  move_value_inside op = (move_fields records at op).2

  pub move_variable_inside : (statement s i).op ≡ 1 → (statement s i).a < (header s).variables
  move_variable_inside op = (move_fields records at op).0

  pub jump_value_inside : (statement s i).op ≡ 2 → (statement s i).a < (header s).expressions
  jump_value_inside op = read_field records at (omega arith) (omega arith) (omega arith)

pub ruleset moves = (move_run, move_value_inside, move_variable_inside)

pub ruleset jumps = (jump_run, jump_value_inside)
