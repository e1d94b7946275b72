-- The pairs of an accepted state: each is a value of its variable's type, and each value of that type is such a pair. Assumes nothing.
use mathlib.Core.Path.{◌≡◌, refl, ◌∙◌}
use mathlib.Core.Bool.{Bool, true, false, ◌&&◌, and-eq-true_iff}
use mathlib.Core.List.{List, []}
use Prim.Native.Nat.{ℕ, ◌+◌, ◌*◌, ◌<◌}
use native.Mathlib.Omega.{arith}
use lib.Dec.{eqb, leb}
use lib.ListN.{length, get_or}
use borrow.Author.Tests.{leb-true, ltb-true, eqb-true, eqb-false, le-leb, lt-ltb, eq-eqb}
use Rattle.base.proofs.BoolLaws.{or_cases}
use Rattle.base.proofs.BoolLaws.{impossible}
use Rattle.word.specs.Words.{Width}
use Rattle.value.specs.declared.ValueType.TheVariants.{Imm, Mem}
use Rattle.value.specs.declared.Value.{Value}
use Rattle.value.specs.declared.Value.TheVariants.{Word, Unknown, Memory}
use Rattle.value.specs.Values.{TypeOk}
use Rattle.table.specs.declared.Variable.{Variable}
use Rattle.table.specs.Bytes.{header, variable}
use Rattle.base.specs.Choice.{within}
use Rattle.table.specs.Records.{variable_ok}
use Rattle.table.specs.Decode.{context, declared_type}
use Rattle.memory.specs.Log.{Log}
use Rattle.memory.proofs.LogLaws.{◌⊑◌}
use Rattle.memory.specs.Room.{InRoom}
use Rattle.memory.proofs.LogRules.{head_stays}
use Rattle.memory.specs.Typed.{Has}
use Rattle.memory.proofs.HasLaws.{has_word, has_unknown}
use Rattle.evaluation.specs.State.{value_of, kind_of, number_of, in_state, moved}
use Rattle.evaluation.proofs.StateLaws.{length_moved, moved_kind, moved_number, moved_other}
use Rattle.evaluation.specs.Fitting.{Fits, outside}
use Rattle.running.specs.Start.{pair_ok}
use Rattle.running.specs.Standing.{Pair, absent, word, unknown, memory, StateOk}

-- what both of two tests say
parts : (a b : Bool) → (a && b) ≡ true → (a ≡ true) × (b ≡ true)
parts a b h = (and-eq-true_iff a b).0 h

-- ------------------------------------------------------------------------------------------------
-- Variables

-- a variable of a type that there is
pub data Declared (v : Variable) : Type 0 where
  imm : v.kind ≡ 1 → Width v.width → Declared v
  mem : v.kind ≡ 2 → Width v.addressWidth → Declared v

declared_width : (w : ℕ) → within 1 64 w ≡ true → Width w
declared_width w h = let p = parts (leb 1 w) (leb w 64) h in record { least = leb-true _ _ p.0; most = leb-true _ _ p.1 }

pub declared : (v : Variable) → variable_ok v ≡ true → Declared v
unfolding variable_ok
declared v h =
    or_cases (eqb v.kind 1 && (within 1 64 v.width && eqb v.addressWidth 0))
    (eqb v.kind 2 && (eqb v.width 8 && within 1 64 v.addressWidth)) (parts _ _ h).0
    (λ p. let q = parts _ _ p in imm (eqb-true _ _ q.0) (declared_width _ (parts _ _ q.1).0))
    (λ p. let q = parts _ _ p in mem (eqb-true _ _ q.0) (declared_width _ (parts (eqb v.width 8) _ q.1).1))

type_declared : {v : Variable} → Declared v → TypeOk (declared_type v)
type_declared (imm e w) = rw e w
type_declared (mem e w) = rw e w

-- ------------------------------------------------------------------------------------------------
-- Pairs

pub pair : (L : Log) (v : Variable) (kind n : ℕ) → pair_ok L v kind n ≡ true → Pair L v kind n
unfolding pair_ok
pair L v kind n h =
    or_cases _ _ h (λ p. let q = parts _ _ p in absent (eqb-true _ _ q.0) (eqb-true _ _ q.1)) λ p.
    let r = parts _ _ p in
    let role = eqb-true _ _ r.0 in
    or_cases _ _ r.1
    (λ p. let q = parts _ _ p in let k = parts _ _ q.1 in word role (eqb-true _ _ q.0) (eqb-true _ _ k.0) (ltb-true _ _ k.1)) λ p.
    or_cases _ _ p (λ p. let q = parts _ _ p in unknown role (eqb-true _ _ q.0) (eqb-true _ _ q.1)) λ p.
    let q = parts _ _ p in
    let k = parts _ _ q.1 in
    let w = parts _ _ k.1 in
    let b = parts (leb 1 n) (leb n (length L)) w.0 in
    memory role (eqb-true _ _ q.0) (eqb-true _ _ k.0)
    (record { least = leb-true _ _ b.0; link = record { most = leb-true _ _ b.1; width = λ z. eqb-true _ _ w.1 } })

pub pair-ok : {L : Log} {v : Variable} {kind n : ℕ} → Pair L v kind n → pair_ok L v kind n ≡ true
unfolding pair_ok
pair-ok (absent k h) = rw (k, h, pair_ok)
pair-ok (word r k t h) = rw (k, r, t, lt-ltb _ _ h)
pair-ok (unknown r k h) = rw (k, r, h)
pair-ok {L} {v} {n = n} (memory r k t h) =
    let z : n ≡ 0 → ⊥ = omega arith in
    rw (k, r, t, le-leb _ _ h.least, le-leb _ _ h.link.most, eq-eqb _ _ (h.link.width z))

pub pair_stays : {L M : Log} {v : Variable} {kind n : ℕ} → L ⊑ M → Pair L v kind n → Pair M v kind n
pair_stays p (absent k h) = absent k h
pair_stays p (word r k t h) = word r k t h
pair_stays p (unknown r k h) = unknown r k h
pair_stays p (memory r k t h) = memory r k t (head_stays p h)

-- "Let variables are absent at every start, end and stop."
pub let_absent : {L : Log} {v : Variable} {kind n : ℕ} → v.role ≡ 1 → Pair L v kind n → (kind ≡ 0) × (n ≡ 0)
let_absent l (absent k h) = (k, h)
let_absent l (word r k t h) = absurd (omega arith)
let_absent l (unknown r k h) = absurd (omega arith)
let_absent l (memory r k t h) = absurd (omega arith)

-- a pair's value has its variable's type
pub has_pair : {L : Log} {v : Variable} {kind n : ℕ} → Declared v → Pair L v kind n → Has L (value_of (declared_type v) kind n) (declared_type v)
unfolding value_of
has_pair d (absent k h) = rw (k, value_of) (has_unknown (type_declared d))
has_pair (imm t w) (word r k u h) = rw (k, u, value_of) (has_word (record { width = w; fits = h }))
has_pair (mem t w) (word r k u h) = absurd (omega arith)
has_pair d (unknown r k h) = rw (k, value_of) (has_unknown (type_declared d))
has_pair (imm t w) (memory r k u h) = absurd (omega arith)
has_pair (mem t w) (memory r k u h) = rw (k, u, value_of) (record { sound = w; type = refl; head = h })

-- a value of a state variable's type is such a pair
pub has_moved : {L : Log} {v : Variable} (x : Value) → Declared v → v.role ≡ 0 → Has L x (declared_type v) → Pair L v (kind_of x) (number_of x)
unfolding kind_of number_of
has_moved {v = v} (Word w a) (imm t z) r h =
    let e : Imm w ≡ Imm v.width = rw t at h.type in
    let f : w ≡ v.width = cc in
    word r refl t (rw f at h.sound.fits)
has_moved {v = v} (Word w a) (mem t z) r h =
    let e : Imm w ≡ Mem v.addressWidth = rw t at h.type in
    impossible (cc)
has_moved (Unknown t) d r h = unknown r refl refl
has_moved {v = v} (Memory w head) (imm t z) r h =
    let e : Mem w ≡ Imm v.width = rw t at h.type in
    impossible (cc)
has_moved {v = v} (Memory w head) (mem t z) r h =
    let e : Mem w ≡ Mem v.addressWidth = rw t at h.type in
    let f : w ≡ v.addressWidth = cc in
    memory r refl t (rw f at h.head)

-- ------------------------------------------------------------------------------------------------
-- States

pub state_stays : {s σ : List ℕ} {L M : Log} → L ⊑ M → StateOk s L σ → StateOk s M σ
state_stays p k = record { size = k.size; pairs = λ x h. pair_stays p (k.pairs x h) }

module _ (s : List ℕ) (variables : (x : ℕ) → x < (header s).variables → Declared (variable s x)) where
  pub state_fits : {room : ℕ} {σ : List ℕ} {L : Log} → StateOk s L σ → InRoom room L → Fits (context s) (header s).variables room σ [] L
  unfolding context in_state
  state_fits k l = record { log = l; state = λ x h. has_pair (variables x h) (k.pairs x h); bindings = outside }

  pub state_moved :
      {σ : List ℕ} {L : Log} (x : ℕ) (v : Value) → x < (header s).variables → (variable s x).role ≡ 0 → Has L v ((context s).type x) → StateOk s L σ
      → StateOk s L (moved σ x v)
  unfolding context
  state_moved {σ} {L} x v h r g k = record { size = length_moved σ x v ∙ k.size; pairs = λ y l. go y l (eqb y x) refl }
    where
      go :
          (y : ℕ) → y < (header s).variables → (t : Bool) → eqb y x ≡ t
          → Pair L (variable s y) (get_or (moved σ x v) (2 * y) 0) (get_or (moved σ x v) (2 * y + 1) 0)
      go y l true e =
          let n = k.size in
          rw (eqb-true y x e, moved_kind σ x v (omega arith), moved_number σ x v (omega arith)) (has_moved v (variables x h) r g)
      go y l false e =
          let d = eqb-false y x e in
          rw (moved_other σ x v (2 * y) (omega arith) (omega arith), moved_other σ x v (2 * y + 1) (omega arith) (omega arith)) (k.pairs y l)
