-- States and bindings whose values have their variables' types, and results of a type that compose. Assumes nothing.
use mathlib.Core.Path.{◌≡◌, refl, subst}
use mathlib.Core.Bool.{Bool, true, false}
use mathlib.Core.List.{List, ◌∷◌}
use Prim.Native.Nat.{ℕ}
use lib.Dec.{eqb}
use borrow.Author.Tests.{eqb-true}
use Rattle.base.specs.declared.codes.Stop.{Stop}
use Rattle.base.specs.declared.codes.Stop.TheVariants as Stops
use Rattle.value.specs.declared.ValueType.{ValueType}
use Rattle.value.specs.declared.Value.{Value}
use Rattle.table.specs.Decode.{Context}
use Rattle.memory.specs.Log.{Log}
use Rattle.memory.proofs.LogLaws.{◌⊑◌, ⊑_trans}
use Rattle.memory.specs.Room.{InRoom}
use Rattle.memory.specs.Typed.{Has}
use Rattle.memory.proofs.HasLaws.{has_stays}
use Rattle.memory.specs.Access.{Stored}
use Rattle.memory.proofs.AccessKeeps.{Stores, stores, fills}
use Rattle.evaluation.specs.Fitting.{Bound, outside, inside, Fits}
use Rattle.evaluation.specs.Evaluation.{Evaluated, value, stopped, ◌and_then◌, after_store, Binding, look}

-- ------------------------------------------------------------------------------------------------
-- States and bindings

bound_stays : {Γ : Context} {L M : Log} {ρ : List Binding} → L ⊑ M → Bound Γ L ρ → Bound Γ M ρ
bound_stays p outside = outside
bound_stays p (inside h b) = inside (has_stays p h) (bound_stays p b)

pub fits_stays : {Γ : Context} {n room : ℕ} {σ : List ℕ} {ρ : List Binding} {L M : Log} → L ⊑ M → InRoom room M → Fits Γ n room σ ρ L → Fits Γ n room σ ρ M
fits_stays p k F = record { log = k; state = λ x h. has_stays p (F.state x h); bindings = bound_stays p F.bindings }

pub fits_bound :
    {Γ : Context} {n room : ℕ} {σ : List ℕ} {ρ : List Binding} {L : Log} {v : Value} (x : ℕ) → Has L v (Γ.type x) → Fits Γ n room σ ρ L
    → Fits Γ n room σ (record { variable = x; bound = v } ∷ ρ) L
fits_bound x h F = record { log = F.log; state = F.state; bindings = inside h F.bindings }

pub has_look :
    {Γ : Context} {L : Log} {ρ : List Binding} {other : Value} (x : ℕ) → Bound Γ L ρ → Has L other (Γ.type x) → Has L (look ρ other x) (Γ.type x)
unfolding look
has_look x outside h = h
has_look {Γ} {L} {other = other} x (inside {b = b} {ρ = ρ} k r) h = go (eqb b.variable x) refl (has_look x r h)
  where
    go : {v : Value} (t : Bool) → eqb b.variable x ≡ t → Has L v (Γ.type x) → Has L (elim t [ true ↦ b.bound | false ↦ v ]) (Γ.type x)
    go true e h = subst (λ (y : ℕ). Has L b.bound (Γ.type y)) (eqb-true b.variable x e) k
    go false e h = h

-- ------------------------------------------------------------------------------------------------
-- Results

-- what stops an evaluation
pub data StopsBy : Stop → Type 0 where
  log_full : StopsBy Stops.LogFull
  too_many_bindings : StopsBy Stops.TooManyBindings

-- a value of a type, or a stop; either way the log goes on from L, by its rules and within its room
pub data Gives (room : ℕ) (L : Log) (t : ValueType) : Evaluated → Type 0 where
  gives : {v : Value} {M : Log} → L ⊑ M → InRoom room M → Has M v t → Gives room L t (value v M)
  stops : {code : Stop} {M : Log} → L ⊑ M → InRoom room M → StopsBy code → Gives room L t (stopped code M)

pub gives_more : {room : ℕ} {L M : Log} {t : ValueType} {r : Evaluated} → L ⊑ M → Gives room M t r → Gives room L t r
gives_more p (gives q k h) = gives (⊑_trans p q) k h
gives_more p (stops q k c) = stops (⊑_trans p q) k c

pub gives_then :
    {room : ℕ} {L : Log} {t u : ValueType} {r : Evaluated} {f : Value → Log → Evaluated} → Gives room L t r
    → ((v : Value) (M : Log) → L ⊑ M → InRoom room M → Has M v t → Gives room M u (f v M)) → Gives room L u (r and_then f)
unfolding ◌and_then◌
gives_then (gives p k h) f = gives_more p (f _ _ p k h)
gives_then (stops p k c) f = stops p k c

pub gives_stored : {room : ℕ} {L : Log} {t : ValueType} {r : Stored} → Stores room L t r → Gives room L t (after_store r)
unfolding after_store
gives_stored (stores p k h) = gives p k h
gives_stored (fills p k) = stops p k log_full
