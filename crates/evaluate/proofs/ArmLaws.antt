-- Each way of the walk: what it asks of the next call, and that it leaves what the evaluation of its expression leaves. Assumes nothing.
use mathlib.Core.Path.{◌≡◌, refl, sym, ap, subst, ◌∙◌}
use mathlib.Core.Bool.{true, false}
use mathlib.Core.List.{List, [], ◌∷◌}
use Prim.Native.Nat.{ℕ, ◌+◌, ◌*◌, ◌≤◌, ◌<◌}
use native.Mathlib.Omega.{arith}
use lib.Dec.{ltb}
use lib.ListN.{length}
use borrow.Author.Tests.{lt-ltb, le-ltb}
use Rattle.std.specs.Prelude.{Option, Some, None, Result, Ok, Err}
use Rattle.std.specs.Option.{unwrap_or}
use Rattle.std.specs.Result.{IsErr, IsErrAnd}
use Rattle.std.proofs.lemmas.Result.{err_from_is_err_and}
use Rattle.base.specs.declared.codes.Stop.{Stop}
use Rattle.base.specs.declared.codes.Stop.TheVariants as Stops
use Rattle.base.specs.Numbered.{numbered}
use Rattle.base.proofs.BoolLaws.{impossible}
use Rattle.base.proofs.NumberedLaws.{end, ◌then◌, numbered_all}
use Rattle.value.specs.declared.ValueType.{ValueType}
use Rattle.value.specs.declared.Value.{Value}
use Rattle.value.specs.Values.{Sound, type_of, size}
use Rattle.table.specs.declared.Header.{Header}
use Rattle.table.specs.declared.Node.{Node}
use Rattle.table.specs.Bytes.{header, expression}
use Rattle.table.specs.Decode.{Context, context, expr}
use Rattle.table.proofs.ExpressionLaws.{expr_view}
use Rattle.typing.specs.Typing.{◌⊢◌∶◌}
use Rattle.memory.specs.declared.LogBuffer.{LogBuffer}
use Rattle.memory.specs.Log.{Log}
use Rattle.memory.specs.Buffer.{held, room_of}
use Rattle.memory.specs.Typed.{Has}
use Rattle.memory.proofs.LogLaws.{◌⊑◌, stay}
use Rattle.memory.proofs.HasLaws.{has_stays}
use Rattle.evaluation.specs.Evaluation as E
use Rattle.evaluation.specs.Evaluation.{◌and_then◌, Binding, most_bindings}
use Rattle.evaluation.specs.Fitting.{Fits}
use Rattle.evaluation.proofs.EvaluationLaws.{fits_stays, fits_bound}
use Rattle.evaluation.proofs.Formed.{formed}
use Rattle.running.proofs.EvaluationKeeps.{eval_keeps}
use Rattle.bindings.specs.declared.Bindings.{Bindings}
use Rattle.bindings.specs.Bound.{bindings_of, none, more}
use Rattle.bindings.proofs.BoundLaws.{whole_more, bindings_none, bindings_more, length-bindings}
use Rattle.operation.specs.declared.order.Steps.{Steps}
use Rattle.operation.specs.declared.order.Steps.TheVariants as By
use Rattle.operation.specs.Order.{orders, steps_of}
use Rattle.operation.specs.ByOp.{leaves, at_once, value_in, no_value, leaf_value, one_value, two_value, three_value, OneFits, TwoFits, ThreeFits}
use Rattle.logs.specs.Held.{Holds}
use Rattle.operation.specs.After.{AfterOne, AfterTwo, AfterThree, one_after, two_after, three_after}
use Rattle.operation.specs.Outcome.{Leaves, log_in}
use Rattle.operation.proofs.OutcomeLaws as Still
use Rattle.evaluate.specs.Ready.{Ready}
use Rattle.evaluate.proofs.OnLaws.{three_on}
use Rattle.evaluate.proofs.StepLaws.{Step, leaf, one, two, lets, three, step, Below, step_below, eval_by, eval_at, eval-by}
use Rattle.evaluate.proofs.WentLaws.{Went, same_room, went_trans, went_holds, over, leaves_value, leaves_stop, Known, known, known_stop, known_of}

-- ------------------------------------------------------------------------------------------------
-- An operand that gave a value, and one that stopped

pub record Valued (l : LogBuffer) (t : ValueType) (x : E.Evaluated) (v : Value) (m : LogBuffer) : Type 0 where
  pub went : Went l m
  pub is : x ≡ E.value v (held m)
  pub has : Has (held m) v t

pub valued : {l m : LogBuffer} {t : ValueType} {x : E.Evaluated} {v : Value} → Known l t x m (Ok v) → Valued l t x v m
valued (known w e h) = record { went = w; is = e; has = h }

pub record Ended (l : LogBuffer) (x : E.Evaluated) (code : Stop) (m : LogBuffer) : Type 0 where
  pub went : Went l m
  pub is : x ≡ E.stopped code (held m)

pub ended : {l m : LogBuffer} {code : Stop} {t : ValueType} {x : E.Evaluated} → Known l t x m (Err code) → Ended l x code m
ended (known_stop w e) = record { went = w; is = e }

-- what comes after an operand
then_value : {x y : E.Evaluated} {v : Value} {L : Log} (f : Value → Log → E.Evaluated) → y ≡ (x and_then f) → x ≡ E.value v L → y ≡ f v L
unfolding ◌and_then◌
then_value f p e = p ∙ ap (λ (x : E.Evaluated). x and_then f) e

then_stop : {x y : E.Evaluated} {code : Stop} {L : Log} (f : Value → Log → E.Evaluated) → y ≡ (x and_then f) → x ≡ E.stopped code L
    → y ≡ E.stopped code L
unfolding ◌and_then◌
then_stop f p e = p ∙ ap (λ (x : E.Evaluated). x and_then f) e

-- ------------------------------------------------------------------------------------------------
-- The calls

abbrev evaluated : (s σ : List ℕ) → LogBuffer → List Binding → ℕ → E.Evaluated
evaluated s σ l ρ i = eval_at s (room_of l) σ i ρ (held l)

-- what an evaluation of expression i makes of buffer l, which becomes m
abbrev pub Call : (s σ : List ℕ) → LogBuffer → Bindings → ℕ → Result Value Stop → LogBuffer → Type 0
Call s σ l b i r m = Leaves l (evaluated s σ l (bindings_of b) i) r m

module _ {s σ : List ℕ} {l : LogBuffer} {b : Bindings} (ready : Ready s σ l b) where
  called : {m : LogBuffer} {r : Result Value Stop} {t : ValueType} (i : ℕ) → i < (header s).expressions → context s ⊢ expr s i ∶ t → Call s σ l b i r m
      → Known l t (evaluated s σ l (bindings_of b) i) m r
  called i inside d left =
      known_of (eval_keeps (context s) (header s).variables (room_of l) σ d (formed s (expr_view ready.records) i inside) ready.fits) left

  stays : {m : LogBuffer} → Went l m → Ready s σ m b
  stays {m} w = record {
    framed = ready.framed;
    records = ready.records;
    typing = ready.typing;
    state = ready.state;
    whole = ready.whole;
    room = w.room;
    fits =
        subst (λ (k : ℕ). Fits (context s) (header s).variables k σ (bindings_of b) (held m)) (sym (same_room w))
        (fits_stays w.on w.log ready.fits);
  }

  under : (x : ℕ) (v : Value) → b.count < most_bindings → Has (held l) v ((context s).type x) → Ready s σ l (more b x v)
  under x v few h = record {
    framed = ready.framed;
    records = ready.records;
    typing = ready.typing;
    state = ready.state;
    whole = whole_more x v ready.whole few;
    room = ready.room;
    fits = rw (bindings_more x v ready.whole few) (fits_bound x h ready.fits);
  }

  -- whatever its type
  pub known_call : {m : LogBuffer} {r : Result Value Stop} (i : ℕ) → i < (header s).expressions → Call s σ l b i r m
      → (t : ValueType) × Known l t (evaluated s σ l (bindings_of b) i) m r
  known_call i inside left = let (t, d) = ready.typing.expressions i inside in (t, called i inside d left)

  -- a buffer that the next call may start from
  module _ {m : LogBuffer} {v : Value} (i : ℕ) (inside : i < (header s).expressions) (left : Call s σ l b i (Ok v) m) where
    went_on : Went l m
    went_on = let (t, q) = known_call i inside left in (valued q).went

    gave : evaluated s σ l (bindings_of b) i ≡ E.value v (held m)
    gave = let (t, q) = known_call i inside left in (valued q).is

    pub next : Ready s σ m b
    next = stays went_on

  -- a stop of the first operand
  stops_first : {m : LogBuffer} {code : Stop} {y : E.Evaluated} (i : ℕ) → i < (header s).expressions → Call s σ l b i (Err code) m
      → (f : Value → Log → E.Evaluated) → y ≡ (evaluated s σ l (bindings_of b) i and_then f) → Leaves l y (Err code) m
  stops_first i inside left f q =
      let (t, k) = known_call i inside left in
      let z = ended k in
      leaves_stop z.went (then_stop f q z.is)

sound_small : (v : Value) → Sound v → size (type_of v) < 256
sound_small (Value.Word w a) h = let m = h.width.most in omega arith
sound_small (Value.Unknown (ValueType.Imm w)) h = let m = h.most in omega arith
sound_small (Value.Unknown (ValueType.Mem w)) h = let m = h.most in omega arith
sound_small (Value.Memory w head) h = let m = h.most in omega arith

-- what is left from a buffer that went on
on_over : {l m p : LogBuffer} {x : E.Evaluated} {r : Result Value Stop} → Went l m → held m ⊑ log_in x → Leaves m x r p → Leaves l x r p
on_over w h left = record { is = left.is; log = over w h left.log }

-- the last evaluation is the expression's own
end_same : {l m p : LogBuffer} {u : ValueType} {x y : E.Evaluated} {r : Result Value Stop} → Went l m → Known m u x p r → y ≡ x → Leaves l y r p
end_same w (known z h has) q = leaves_value (went_trans w z) (q ∙ h)
end_same w (known_stop z h) q = leaves_stop (went_trans w z) (q ∙ h)

-- ------------------------------------------------------------------------------------------------
-- The ways

-- an expression that the walk has come to, with its record and the order of its operands
pub record At (s σ : List ℕ) (l : LogBuffer) (b : Bindings) (i : ℕ) (r : Node) (o : Steps) : Type 0 where
  pub ready : Ready s σ l b
  pub inside : i < (header s).expressions
  pub is : r ≡ expression s i
  pub steps : steps_of r ≡ o

pub arrived : {s σ : List ℕ} {l : LogBuffer} {b : Bindings} {i : ℕ} {r : Node} {o q : Steps} → Ready s σ l b → i < (header s).expressions
    → r ≡ expression s i → q ≡ steps_of r → q ≡ o → At s σ l b i r o
arrived ready inside is steps way = record { ready = ready; inside = inside; is = is; steps = sym steps ∙ way }

module _ {s σ : List ℕ} {l : LogBuffer} {b : Bindings} {i : ℕ} {r : Node} {o : Steps} (here : At s σ l b i r o) where
  abbrev ready : Ready s σ l b
  ready = here.ready

  met : Step s i r o
  met =
      let (t, d) = ready.typing.expressions i here.inside in
      subst (Step s i r) here.steps (subst (λ (r : Node). Step s i r (steps_of r)) (sym here.is) (step (expr_view ready.records i here.inside) d))

  -- operands are lower
  below : Below i o
  below = step_below met

  abbrev whole : E.Evaluated
  whole = evaluated s σ l (bindings_of b) i

  by : whole ≡ eval_by (context s) (room_of l) σ (eval_at s (room_of l) σ) r o (bindings_of b) (held l)
  by =
      eval-by s (room_of l) σ (expr_view ready.records i here.inside) (bindings_of b) (held l)
      ∙ ap (λ (q : Node). eval_by (context s) (room_of l) σ (eval_at s (room_of l) σ) q (steps_of q) (bindings_of b) (held l)) (sym here.is)
      ∙ ap (λ (o : Steps). eval_by (context s) (room_of l) σ (eval_at s (room_of l) σ) r o (bindings_of b) (held l)) here.steps

-- a call that goes down from i to k, whose measure is 3 * k + 2, where i's is t
pub down : {t k i : ℕ} {s σ : List ℕ} {l : LogBuffer} {b : Bindings} → 3 * i ≡ t → k < i → i < (header s).expressions → Ready s σ l b
    → (3 * k + 2 < t) × (Ready s σ l b × (k < (header s).expressions))
down e h inside ready = (omega (arith, e), (ready, omega arith))

pub down_inside : {t k i n : ℕ} → 3 * i ≡ t → k < i → i < n → (3 * k + 2 < t) × (k < n)
down_inside e h inside = (omega (arith, e), omega arith)

pub down_whole : {t k i : ℕ} {s σ : List ℕ} {m : LogBuffer} {b : Bindings} → 2 * i ≡ t → k < i → i < (header s).expressions → Ready s σ m b
    → (2 * k + 1 < t) × (Ready s σ m b × (k < (header s).expressions))
down_whole e h inside ready = (omega (arith, e), (ready, omega arith))

-- there is room for the first binding
pub few_none : none.count < most_bindings
unfolding none
few_none = omega arith

-- the error of an operand is handed on
pub stopped : {l m : LogBuffer} {x : E.Evaluated} {code : Stop} {r : Result Value Stop} → IsErr r × IsErrAnd r (λ y. y ≡ code)
    → Leaves l x (Err code) m → Leaves l x r m
stopped {l = l} {m = m} {x = x} {r = r} h left =
    let p = err_from_is_err_and r h.1 in
    subst (λ (r : Result Value Stop). Leaves l x r m) (sym (p.1 ∙ ap Err p.2)) left

-- none
module _ {s σ : List ℕ} {l : LogBuffer} {b : Bindings} {i : ℕ} {r : Node} (here : At s σ l b i r By.Leaf) where
  pub leaf_asks : r.op ≡ 1 → r.a < (header s).variables
  leaf_asks = go (met here)
    where
      go : Step s i r By.Leaf → r.op ≡ 1 → r.a < (header s).variables
      go (leaf h) = h

  pub leaf_leaves : {v : Value} → v ≡ leaf_value (context s) σ r (bindings_of b) → Leaves l (whole here) (Ok v) l
  unfolding eval_by
  leaf_leaves p = Still.leaves_value here.ready.room (by here) p

-- one
module _ {s σ : List ℕ} {l : LogBuffer} {b : Bindings} {i : ℕ} {r : Node} {a : ℕ} (here : At s σ l b i r (By.One a)) where
  pub one_below : a < i
  one_below = below here

  pub one_stops : {code : Stop} {m : LogBuffer} → Call s σ l b a (Err code) m → Leaves l (whole here) (Err code) m
  unfolding eval_by
  one_stops first = let h = below here in stops_first here.ready a (omega arith) first _ (by here)

  one_gives : {v : Value} {m : LogBuffer} → Call s σ l b a (Ok v) m → Leaves l (whole here) (Ok (one_value r v)) m
  unfolding eval_by
  one_gives {v} first =
      let h = below here in
      leaves_value (went_on here.ready a (omega arith) first)
      (then_value (λ v L. E.value (one_value r v) L) (by here) (gave here.ready a (omega arith) first))

  module _ {e : Result Value Stop} {m : LogBuffer} (last : Call s σ l b a e m) where
    pub one_asks : AfterOne r e
    one_asks = record { fits = λ v p. go v (met here) (subst (λ (e : Result Value Stop). Call s σ l b a e m) p last) }
      where
        go : (v : Value) → Step s i r (By.One a) → Call s σ l b a (Ok v) m → OneFits r v
        go v (one h d f) first = f _ v (valued (called here.ready a (omega arith) d first)).has

    pub one_leaves : {y : Result Value Stop} → y ≡ one_after r e → Leaves l (whole here) y m
    one_leaves p = subst (λ (y : Result Value Stop). Leaves l (whole here) y m) (sym p) (go e last)
      where
        go : (e : Result Value Stop) → Call s σ l b a e m → Leaves l (whole here) (one_after r e) m
        go (Ok v) last = one_gives last
        go (Err code) last = one_stops last

-- two
module _ {s σ : List ℕ} {l : LogBuffer} {b : Bindings} {i : ℕ} {r : Node} {a c : ℕ} (here : At s σ l b i r (By.Two a c)) where
  pub two_below : (a < i) × (c < i)
  two_below = below here

  abbrev second_of : Value → Log → E.Evaluated
  second_of v L = eval_at s (room_of l) σ c (bindings_of b) L and_then λ w L. E.value (two_value L r v w) L

  pub two_stops : {code : Stop} {m : LogBuffer} → Call s σ l b a (Err code) m → Leaves l (whole here) (Err code) m
  unfolding eval_by
  two_stops first = let h = (below here).0 in stops_first here.ready a (omega arith) first _ (by here)

  module _ {v : Value} {m : LogBuffer} (first : Call s σ l b a (Ok v) m) where
    went_first : Went l m
    went_first = let h = (below here).0 in went_on here.ready a (omega arith) first

    after_first : whole here ≡ (evaluated s σ m (bindings_of b) c and_then λ w L. E.value (two_value L r v w) L)
    unfolding eval_by
    after_first =
        let h = (below here).0 in
        then_value second_of (by here) (gave here.ready a (omega arith) first)
        ∙ ap (λ (k : ℕ). eval_at s k σ c (bindings_of b) (held m) and_then λ w L. E.value (two_value L r v w) L) (sym (same_room went_first))

    pub two_ready : Ready s σ m b
    two_ready = stays here.ready went_first

    pub two_stops_second : {code : Stop} {p : LogBuffer} → Call s σ m b c (Err code) p → Leaves l (whole here) (Err code) p
    two_stops_second second =
        let g = (below here).1 in
        let (t, k) = known_call two_ready c (omega arith) second in
        let z = ended k in
        leaves_stop (went_trans went_first z.went) (then_stop _ after_first z.is)

    two_gives : {w : Value} {p : LogBuffer} → Call s σ m b c (Ok w) p → Leaves l (whole here) (Ok (two_value (held p) r v w)) p
    two_gives second =
        let g = (below here).1 in
        leaves_value (went_trans went_first (went_on two_ready c (omega arith) second))
        (then_value (λ w L. E.value (two_value L r v w) L) after_first (gave two_ready c (omega arith) second))

    module _ {e : Result Value Stop} {p : LogBuffer} (last : Call s σ m b c e p) where
      pub two_asks : AfterTwo p r v e
      two_asks = record { holds = λ w q. (asks w (given w q)).0; fits = λ w q. (asks w (given w q)).1 }
        where
          given : (w : Value) → e ≡ Ok w → Call s σ m b c (Ok w) p
          given w q = subst (λ (e : Result Value Stop). Call s σ m b c e p) q last

          go : (w : Value) → Step s i r (By.Two a c) → Call s σ m b c (Ok w) p → Holds p.numbers.now p.count × TwoFits (held p) r v w
          go w (two h g d f fits) second =
              let one = valued (called here.ready a (omega arith) d first) in
              let two = valued (called two_ready c (omega arith) f second) in
              (went_holds two.went, fits _ v w (has_stays two.went.on one.has) two.has)

          asks : (w : Value) → Call s σ m b c (Ok w) p → Holds p.numbers.now p.count × TwoFits (held p) r v w
          asks w second = go w (met here) second

      pub two_leaves : {y : Result Value Stop} → y ≡ two_after p r v e → Leaves l (whole here) y p
      two_leaves q = subst (λ (y : Result Value Stop). Leaves l (whole here) y p) (sym q) (go e last)
        where
          go : (e : Result Value Stop) → Call s σ m b c e p → Leaves l (whole here) (two_after p r v e) p
          go (Ok w) last = two_gives last
          go (Err code) last = two_stops_second last

-- a let
module _ {s σ : List ℕ} {l : LogBuffer} {b : Bindings} {i : ℕ} {r : Node} {a c : ℕ} (here : At s σ l b i r (By.Let a c)) where
  pub let_below : (a < i) × (c < i)
  let_below = below here

  pub let_stops : {code : Stop} {m : LogBuffer} → Call s σ l b a (Err code) m → Leaves l (whole here) (Err code) m
  unfolding eval_by
  let_stops first = let h = (below here).0 in stops_first here.ready a (omega arith) first _ (by here)

  module _ {v : Value} {m : LogBuffer} (first : Call s σ l b a (Ok v) m) where
    bound : Has (held m) v ((context s).type r.a)
    bound = go (met here)
      where
        go : Step s i r (By.Let a c) → Has (held m) v ((context s).type r.a)
        go (lets h g x d f) = (valued (called here.ready a (omega arith) d first)).has

    pub let_asks : (r.a < 256) × (size (type_of v) < 256)
    let_asks = go (met here)
      where
        go : Step s i r (By.Let a c) → (r.a < 256) × (size (type_of v) < 256)
        go (lets h g x d f) = let most = here.ready.framed.variables in (omega arith, sound_small v bound.sound)

    -- what comes after the bound expression
    after_bound : whole here ≡ elim (ltb (length (bindings_of b)) most_bindings) [
      | true ↦ eval_at s (room_of l) σ c (record { variable = r.a; bound = v } ∷ bindings_of b) (held m)
      | false ↦ E.stopped Stops.TooManyBindings (held m)
    ]
    unfolding eval_by
    after_bound =
        let h = (below here).0 in
        then_value (λ v L. elim (ltb (length (bindings_of b)) most_bindings) [
          | true ↦ eval_at s (room_of l) σ c (record { variable = r.a; bound = v } ∷ bindings_of b) L
          | false ↦ E.stopped Stops.TooManyBindings L
        ]) (by here) (gave here.ready a (omega arith) first)

    pub let_full : most_bindings ≤ b.count → Leaves l (whole here) (Err Stops.TooManyBindings) m
    let_full full =
        let h = (below here).0 in
        let n = length-bindings b in
        let none : ltb (length (bindings_of b)) most_bindings ≡ false = le-ltb (length (bindings_of b)) most_bindings (omega arith) in
        leaves_stop (went_on here.ready a (omega arith) first) (rw none at after_bound)

    module _ (few : b.count < most_bindings) where
      inner : Ready s σ m (more b r.a v)
      inner = let h = (below here).0 in under (next here.ready a (omega arith) first) r.a v few bound

      pub let_ready : {d : Bindings} → d ≡ more b r.a v → Ready s σ m d
      let_ready p = subst (λ (d : Bindings). Ready s σ m d) (sym p) inner

      pub let_leaves : {d : Bindings} {y : Result Value Stop} {p : LogBuffer} → d ≡ more b r.a v → Call s σ m d c y p → Leaves l (whole here) y p
      let_leaves {d} {y} {p} is-more given =
          let second : Call s σ m (more b r.a v) c y p = subst (λ (d : Bindings). Call s σ m d c y p) is-more given in
          let h = (below here).0 in
          let g = (below here).1 in
          let w = went_on here.ready a (omega arith) first in
          let n = length-bindings b in
          let some : ltb (length (bindings_of b)) most_bindings ≡ true = lt-ltb (length (bindings_of b)) most_bindings (omega arith) in
          let (u, k) = known_call inner c (omega arith) second in
          end_same w k
          ((rw some at after_bound)
          ∙ ap (λ (k : ℕ). eval_at s k σ c (record { variable = r.a; bound = v } ∷ bindings_of b) (held m)) (sym (same_room w))
          ∙ ap (λ (ρ : List Binding). eval_at s (room_of m) σ c ρ (held m)) (sym (bindings_more r.a v here.ready.whole few)))

-- three
module _ {s σ : List ℕ} {l : LogBuffer} {b : Bindings} {i : ℕ} {r : Node} {a c d : ℕ} (here : At s σ l b i r (By.Three a c d)) where
  pub three_below : (a < i) × (c < i) × (d < i)
  three_below = below here

  -- what comes after the first, and after the second
  abbrev last : Value → Value → Value → Log → E.Evaluated
  last v w z L = three_value (room_of l) L r v w z

  abbrev rest : Value → Value → Log → E.Evaluated
  rest v w L = eval_at s (room_of l) σ d (bindings_of b) L and_then last v w

  pub three_stops : {code : Stop} {m : LogBuffer} → Call s σ l b a (Err code) m → Leaves l (whole here) (Err code) m
  unfolding eval_by
  three_stops first = let h = (below here).0 in stops_first here.ready a (omega arith) first _ (by here)

  module _ {v : Value} {m : LogBuffer} (first : Call s σ l b a (Ok v) m) where
    went_one : Went l m
    went_one = let h = (below here).0 in went_on here.ready a (omega arith) first

    pub three_ready : Ready s σ m b
    three_ready = stays here.ready went_one

    after_one : whole here ≡ (evaluated s σ m (bindings_of b) c and_then rest v)
    unfolding eval_by
    after_one =
        let h = (below here).0 in
        then_value (λ v L. eval_at s (room_of l) σ c (bindings_of b) L and_then rest v) (by here) (gave here.ready a (omega arith) first)
        ∙ ap (λ (k : ℕ). eval_at s k σ c (bindings_of b) (held m) and_then rest v) (sym (same_room went_one))

    pub three_stops_second : {code : Stop} {p : LogBuffer} → Call s σ m b c (Err code) p → Leaves l (whole here) (Err code) p
    three_stops_second second =
        let g = (below here).1 in
        let (t, k) = known_call three_ready c (omega arith) second in
        let z = ended k in
        leaves_stop (went_trans went_one z.went) (then_stop (rest v) after_one z.is)

    module _ {w : Value} {p : LogBuffer} (second : Call s σ m b c (Ok w) p) where
      went_two : Went m p
      went_two = let g = (below here).1 in went_on three_ready c (omega arith) second

      both : Went l p
      both = went_trans went_one went_two

      pub three_ready_last : Ready s σ p b
      three_ready_last = stays three_ready went_two

      after_two : whole here ≡ (evaluated s σ p (bindings_of b) d and_then last v w)
      after_two =
          let g = (below here).1 in
          then_value (rest v) after_one (gave three_ready c (omega arith) second)
          ∙ ap (λ (k : ℕ). eval_at s k σ d (bindings_of b) (held p) and_then last v w) (sym (same_room both))

      went_third : {code : Stop} {q : LogBuffer} → Call s σ p b d (Err code) q → Ended p (evaluated s σ p (bindings_of b) d) code q
      went_third third = let h = (below here).2 in let (t, k) = known_call three_ready_last d (omega arith) third in ended k

      pub three_stops_third : {code : Stop} {q : LogBuffer} → Call s σ p b d (Err code) q → Leaves l (whole here) (Err code) q
      three_stops_third third = let z = went_third third in leaves_stop (went_trans both z.went) (then_stop (last v w) after_two z.is)

      module _ {e : Result Value Stop} {q : LogBuffer} (last_call : Call s σ p b d e q) where
        given : {f : Result Value Stop} → e ≡ f → Call s σ p b d f q
        given is = subst (λ (e : Result Value Stop). Call s σ p b d e q) is last_call

        pub three_asks : AfterThree q r v w e
        three_asks = record {
          holds = λ z is. (asks z (given is)).0;
          fits = λ z is. (asks z (given is)).1;
          room = λ code is. (went_third (given is)).went.room;
        }
          where
            go : (z : Value) → Step s i r (By.Three a c d) → Call s σ p b d (Ok z) q → Holds q.numbers.now q.count × ThreeFits (held q) r v w z
            go z (three h g k tx ty tz fits) third =
                let one = valued (called here.ready a (omega arith) tx first) in
                let two = valued (called three_ready c (omega arith) ty second) in
                let last = valued (called three_ready_last d (omega arith) tz third) in
                (went_holds last.went, fits _ v w z (has_stays last.went.on (has_stays two.went.on one.has)) (has_stays last.went.on two.has) last.has)

            asks : (z : Value) → Call s σ p b d (Ok z) q → Holds q.numbers.now q.count × ThreeFits (held q) r v w z
            asks z third = go z (met here) third

        pub three_leaves : {y : Result Value Stop} {o : LogBuffer} → Leaves q (three_after q r v w e) y o → Leaves l (whole here) y o
        three_leaves {y} {o} left = go e last_call left
          where
            go : (e : Result Value Stop) → Call s σ p b d e q → Leaves q (three_after q r v w e) y o → Leaves l (whole here) y o
            go (Ok z) third left =
                let h = (below here).2 in
                let all = went_trans both (went_on three_ready_last d (omega arith) third) in
                let is : whole here ≡ three_value (room_of q) (held q) r v w z =
                then_value (last v w) after_two (gave three_ready_last d (omega arith) third)
                ∙ ap (λ (k : ℕ). three_value k (held q) r v w z) (sym (same_room all)) in
                subst (λ (x : E.Evaluated). Leaves l x y o) (sym is) (on_over all (three_on (room_of q) (held q) r v w z) left)
            go (Err code) third left =
                let end = went_third third in
                subst (λ (x : E.Evaluated). Leaves l x y o) (sym (then_stop (last v w) after_two end.is)) (on_over (went_trans both end.went) stay left)

-- ------------------------------------------------------------------------------------------------
-- An operand, whose value is there at once

-- what is there at once has no operands
at_once_leaf : (Γ : Context) (σ : List ℕ) (r : Node) (ρ : List Binding) {v : Value} → at_once Γ σ r ρ ≡ Some v → steps_of r ≡ By.Leaf
unfolding at_once leaves steps_of orders
at_once_leaf Γ σ r ρ {v} =
    numbered_all (λ (k : ℕ) (f : Context → List ℕ → Node → List Binding → Option Value). f Γ σ r ρ ≡ Some v → numbered (λ r. By.Leaf) orders k r ≡ By.Leaf)
    (λ Γ σ r ρ. None) (λ k e. impossible (cc)) leaves ((λ e. refl) then (λ e. refl) then (λ e. refl) then end) r.op

module _ {s σ : List ℕ} {l : LogBuffer} {b : Bindings} {i : ℕ} (ready : Ready s σ l b) (inside : i < (header s).expressions) where
  here : steps_of (expression s i) ≡ By.Leaf → At s σ l b i (expression s i) By.Leaf
  here e = record { ready = ready; inside = inside; is = refl; steps = e }

  pub variable_asks : (expression s i).op ≡ 1 → (expression s i).a < (header s).variables
  unfolding steps_of orders
  variable_asks op = leaf_asks (here (rw op refl)) op

  pub at_once_leaves : {w : Option Value} {v : Value} → w ≡ at_once (context s) σ (expression s i) (bindings_of b) → w ≡ Some v → Call s σ l b i (Ok v) l
  unfolding leaf_value
  at_once_leaves is found =
      let there = sym is ∙ found in
      leaf_leaves (here (at_once_leaf (context s) σ (expression s i) (bindings_of b) there)) (sym (ap value_in there))

-- where no binding is in force
pub unbound_asks : {s σ : List ℕ} {l : LogBuffer} {b : Bindings} {i : ℕ} {h : Header} → h ≡ header s → Ready s σ l b → i < (header s).expressions
    → (expression s i).op ≡ 1 → (expression s i).a < h.variables
unbound_asks {s} {i = i} is ready inside op = subst (λ (h : Header). (expression s i).a < h.variables) (sym is) (variable_asks ready inside op)

pub unbound_leaves : {s σ : List ℕ} {l : LogBuffer} {i : ℕ} (ready : Ready s σ l none) (inside : i < (header s).expressions) {w : Option Value} {v : Value}
    → w ≡ at_once (context s) σ (expression s i) [] → w ≡ Some v → Call s σ l none i (Ok v) l
unbound_leaves {s} {σ} {i = i} ready inside is found =
    at_once_leaves ready inside (is ∙ ap (at_once (context s) σ (expression s i)) (sym bindings_none)) found

value_or : (w : Option Value) → unwrap_or w no_value ≡ value_in w
value_or (Some v) = refl
value_or None = refl

pub leaf_unbound : (s σ : List ℕ) (i : ℕ) {r : Node} {w : Option Value} {v : Value} → r ≡ expression s i → w ≡ at_once (context s) σ (expression s i) []
    → v ≡ unwrap_or w no_value → v ≡ leaf_value (context s) σ r (bindings_of none)
unfolding leaf_value
leaf_unbound s σ i {r} {w} is found p =
    p
    ∙ value_or w
    ∙ ap value_in (found ∙ ap (λ (r : Node). at_once (context s) σ r []) (sym is) ∙ ap (at_once (context s) σ r) (sym bindings_none))
