-- Two worlds that evaluate side by side: logs of as many entries, states of n variables and bindings of the same variables, in which
-- open variables have the same value. Assumes nothing.
use mathlib.Core.Path.{◌≡◌, refl, ap, ◌∙◌}
use mathlib.Core.Bool.{Bool, true, false}
use mathlib.Core.List.{List, [], ◌∷◌}
use Prim.Native.Nat.{ℕ, suc, ◌*◌, ◌≤◌}
use native.Mathlib.Omega.{arith}
use lib.Dec.{eqb, ltb}
use lib.ListN.{length}
use borrow.Author.Tests.{eqb-true, eqb-false, ltb-true, ltb-false}
use Rattle.value.specs.declared.Value.{Value}
use Rattle.table.specs.Decode.{Context}
use Rattle.memory.specs.Log.{Log}
use Rattle.memory.specs.Access.{head_of}
use Rattle.evaluation.specs.State.{in_state, moved}
use Rattle.evaluation.specs.Evaluation.{Binding, look}
use Rattle.evaluation.proofs.StateLaws.{length_moved, moved_here, moved_elsewhere, moved_past, in_state-past}
use Rattle.secrecy.specs.Agreement.{Agree}
use Rattle.secrecy.proofs.Same.{Same, same_unknown, same_content, content_same, Onward, same_keeps, same_stored}

pub data Bound (Γ : Context) (L M : Log) : List Binding → List Binding → Type 0 where
  unbound : Bound Γ L M [] []
  binds : {x : ℕ} {u v : Value} {ρ π : List Binding} → (Γ.sealed x ≡ false → Same L M u v) → Bound Γ L M ρ π
      → Bound Γ L M (record { variable = x; bound = u } ∷ ρ) (record { variable = x; bound = v } ∷ π)

pub record World (Γ : Context) (n : ℕ) (σ τ : List ℕ) (ρ π : List Binding) (L M : Log) : Type 0 where
  pub counts : length L ≡ length M
  pub size : length σ ≡ 2 * n
  pub size' : length τ ≡ 2 * n
  pub opens : (x : ℕ) → Γ.sealed x ≡ false → Same L M (in_state σ (Γ.type x) x) (in_state τ (Γ.type x) x)
  pub bound : Bound Γ L M ρ π

-- ------------------------------------------------------------------------------------------------
-- Bindings

bound_keeps : {Γ : Context} {L M L' M' : Log} {ρ π : List Binding} → Onward L M L' M' → Bound Γ L M ρ π → Bound Γ L' M' ρ π
bound_keeps o unbound = unbound
bound_keeps o (binds h b) = binds (λ s. same_keeps o (h s)) (bound_keeps o b)

pub bound_length : {Γ : Context} {L M : Log} {ρ π : List Binding} → Bound Γ L M ρ π → length ρ ≡ length π
bound_length unbound = refl
bound_length (binds h b) = ap suc (bound_length b)

bound_look : {Γ : Context} {L M : Log} {ρ π : List Binding} {u v : Value} (x : ℕ) → Bound Γ L M ρ π → Γ.sealed x ≡ false → Same L M u v
    → Same L M (look ρ u x) (look π v x)
unfolding look
bound_look x unbound s h = h
bound_look {Γ} {L} {M} {u = u} {v = v} x (binds {x = y} {u = a} {v = b} {ρ = ρ} {π = π} k r) s h = go (eqb y x) refl (bound_look x r s h)
  where
    go : (t : Bool) → eqb y x ≡ t → Same L M (look ρ u x) (look π v x)
        → Same L M (elim t [ true ↦ a | false ↦ look ρ u x ]) (elim t [ true ↦ b | false ↦ look π v x ])
    go true e older = k (rw (eqb-true y x e) s)
    go false e older = older

-- ------------------------------------------------------------------------------------------------
-- Worlds

module _ {Γ : Context} {n : ℕ} {σ τ : List ℕ} where
  pub world_keeps : {ρ π : List Binding} {L M L' M' : Log} → Onward L M L' M' → World Γ n σ τ ρ π L M → World Γ n σ τ ρ π L' M'
  world_keeps o W =
      record {
        counts = o.counts;
        size = W.size;
        size' = W.size';
        opens = λ x s. same_keeps o (W.opens x s);
        bound = bound_keeps o W.bound;
      }

  pub world_look : {ρ π : List Binding} {L M : Log} (x : ℕ) → World Γ n σ τ ρ π L M → Γ.sealed x ≡ false
      → Same L M (look ρ (in_state σ (Γ.type x) x) x) (look π (in_state τ (Γ.type x) x) x)
  world_look x W s = bound_look x W.bound s (W.opens x s)

  pub world_binds : {ρ π : List Binding} {L M : Log} {u v : Value} (x : ℕ) → World Γ n σ τ ρ π L M → (Γ.sealed x ≡ false → Same L M u v)
      → World Γ n σ τ (record { variable = x; bound = u } ∷ ρ) (record { variable = x; bound = v } ∷ π) L M
  world_binds x W h = record { counts = W.counts; size = W.size; size' = W.size'; opens = W.opens; bound = binds h W.bound }

  pub world_moves : {ρ π : List Binding} {L M : Log} {u v : Value} (x : ℕ) → World Γ n σ τ ρ π L M → (Γ.sealed x ≡ false → Same L M u v)
      → World Γ n (moved σ x u) (moved τ x v) ρ π L M
  world_moves {L = L} {M = M} {u = u} {v = v} x W h =
      record {
        counts = W.counts;
        size = length_moved σ x u ∙ W.size;
        size' = length_moved τ x v ∙ W.size';
        opens = λ y s. go y s (eqb y x) (ltb x n) refl refl;
        bound = W.bound;
      }
    where
      go : (y : ℕ) → Γ.sealed y ≡ false → (t b : Bool) → eqb y x ≡ t → ltb x n ≡ b
          → Same L M (in_state (moved σ x u) (Γ.type y) y) (in_state (moved τ x v) (Γ.type y) y)
      go y s false b e l =
          rw (moved_elsewhere σ x u (Γ.type y) y (eqb-false y x e), moved_elsewhere τ x v (Γ.type y) y (eqb-false y x e)) (W.opens y s)
      go y s true true e l =
          let e : y ≡ x = eqb-true y x e in
          let inside = ltb-true x n l in
          rw (e, moved_here σ x u (Γ.type x) (omega arith), moved_here τ x v (Γ.type x) (omega arith)) (same_stored (Γ.type x) (h (rw e at s)))
      go y s true false e l =
          let past = ltb-false x n l in rw (moved_past σ x u (omega arith), moved_past τ x v (omega arith)) (W.opens y s)

  -- the states of a world agree
  pub world_agrees : {ρ π : List Binding} {L M : Log} → World Γ n σ τ ρ π L M → Agree Γ n L M σ τ
  world_agrees W x l s = same_content (W.opens x s)

-- states of n variables that agree, with heads that are entries of their logs, are a world
module _ (Γ : Context) (n : ℕ) (σ τ : List ℕ) (L M : Log) where
  pub agrees_world : length L ≡ length M → length σ ≡ 2 * n → length τ ≡ 2 * n
      → ((x : ℕ) → head_of (in_state σ (Γ.type x) x) ≤ length L) → ((x : ℕ) → head_of (in_state τ (Γ.type x) x) ≤ length M)
      → Agree Γ n L M σ τ → World Γ n σ τ [] [] L M
  agrees_world c p q h k A = record { counts = c; size = p; size' = q; opens = λ x s. go x s (ltb x n) refl; bound = unbound }
    where
      go : (x : ℕ) → Γ.sealed x ≡ false → (b : Bool) → ltb x n ≡ b → Same L M (in_state σ (Γ.type x) x) (in_state τ (Γ.type x) x)
      go x s true e = content_same L M _ _ (h x) (k x) (A x (ltb-true x n e) s)
      go x s false e =
          let past = ltb-false x n e in
          rw (in_state-past σ (Γ.type x) x (omega arith), in_state-past τ (Γ.type x) x (omega arith)) same_unknown
