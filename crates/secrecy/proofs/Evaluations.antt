-- Evaluation of an expression that breaks no seal rule, in two worlds. Assumes nothing.
use mathlib.Core.Path.{◌≡◌, refl}
use mathlib.Core.Bool.{Bool, true, false, ◌||◌}
use mathlib.Core.List.{List}
use Prim.Native.Nat.{ℕ}
use lib.Dec.{ltb}
use lib.ListN.{length}
use Rattle.base.specs.declared.codes.Stop.TheVariants as Stops
use Rattle.base.proofs.BoolLaws.{or_false_left, or_false_right}
use Rattle.table.specs.Decode.{Context}
use Rattle.table.specs.Syntax.{Expr}
use Rattle.sealing.specs.Sealing.{Seals, S-VAR, S-WORD, S-UNKNOWN, S-LOAD, S-STORE, S-BINARY, S-UNARY, S-CAST, S-LET, S-ITE, S-EXTRACT, S-CONCAT}
use Rattle.memory.specs.Log.{Log}
use Rattle.evaluation.specs.Evaluation.{Evaluated, stopped, Binding, most_bindings, eval}
use Rattle.secrecy.proofs.Same.{same_word, same_unknown, here, onward_trans, same_keeps}
use Rattle.secrecy.proofs.Same.{same_load, same_binary, same_unary, same_cast, same_extract, same_concat, same_choose}
use Rattle.secrecy.proofs.Both.{Both, both_value, both_stopped, both_then, both_here}
use Rattle.secrecy.proofs.Stores.{store_both}
use Rattle.secrecy.proofs.Worlds.{World, bound_length, world_keeps, world_look, world_binds}

-- a let that both worlds have room for, or neither
bind_both : {l : Bool} {L M : Log} {r s : Evaluated} (ρ π : List Binding) → length L ≡ length M → length ρ ≡ length π → Both l L M r s
    → Both l L M (elim (ltb (length ρ) most_bindings) [ true ↦ r | false ↦ stopped Stops.TooManyBindings L ])
    (elim (ltb (length π) most_bindings) [ true ↦ s | false ↦ stopped Stops.TooManyBindings M ])
bind_both {l} {L} {M} {r} {s} ρ π n e h = rw e (go (ltb (length π) most_bindings))
  where
    go : (t : Bool) → Both l L M (elim t [ true ↦ r | false ↦ stopped Stops.TooManyBindings L ]) (elim t [ true ↦ s | false ↦ stopped Stops.TooManyBindings M ])
    go true = h
    go false = both_stopped (here n)

module _ {Γ : Context} (n room : ℕ) {σ τ : List ℕ} where
  pub eval_agrees : {e : Expr} {l : Bool} → Seals Γ e l → {ρ π : List Binding} {L M : Log} → World Γ n σ τ ρ π L M
      → Both l L M (eval Γ room σ e ρ L) (eval Γ room τ e π M)
  unfolding eval
  eval_agrees (S-VAR {x = x}) W = both_value (here W.counts) (world_look x W)
  eval_agrees S-WORD W = both_value (here W.counts) (λ s. same_word)
  eval_agrees S-UNKNOWN W = both_value (here W.counts) (λ s. same_unknown)
  eval_agrees (S-LOAD {z = z} {big = big} m e) W =
      both_then (eval_agrees e W) λ a b L M o address.
      both_then (eval_agrees m (world_keeps o W)) λ c d L M p memory.
      both_here p λ s. same_load z big (memory s) (same_keeps p (address refl))
  eval_agrees (S-STORE {z = z} {big = big} m e v) W =
      both_then (eval_agrees v W) λ x y L M o stores.
      let W = world_keeps o W in
      both_then (eval_agrees e W) λ a b L M p address.
      both_then (eval_agrees m (world_keeps p W)) λ c d L M q memory.
      store_both room z big q.counts memory (same_keeps q (address refl)) (λ s. same_keeps (onward_trans p q) (stores s))
  eval_agrees (S-BINARY {sub = sub} {l = l} {k = k} e f) W =
      both_then (eval_agrees e W) λ a b L M o left.
      both_then (eval_agrees f (world_keeps o W)) λ c d L M p right.
      both_here p λ s. same_binary sub (same_keeps p (left (or_false_left l k s))) (right (or_false_right l k s))
  eval_agrees (S-UNARY {sub = sub} e) W =
      both_then (eval_agrees e W) λ a b L M o operand. both_here o λ s. same_unary sub (operand s)
  eval_agrees (S-CAST {sub = sub} {p = p} e) W =
      both_then (eval_agrees e W) λ a b L M o operand. both_here o λ s. same_cast sub p (operand s)
  eval_agrees (S-LET {x = x} e opens f) {ρ} {π} W =
      both_then (eval_agrees e W) λ a b L M o bound.
      bind_both ρ π o.counts (bound_length W.bound) (eval_agrees f (world_binds x (world_keeps o W) (λ s. bound (opens s))))
  eval_agrees (S-ITE {l = l} {k = k} {j = j} c e f) W =
      both_then (eval_agrees f W) λ x y L M o otherwise.
      let W = world_keeps o W in
      both_then (eval_agrees e W) λ a b L M p then.
      both_then (eval_agrees c (world_keeps p W)) λ d g L M q condition.
      both_here q λ s.
      let rest = or_false_right l (k || j) s in
      same_choose (condition (or_false_left l (k || j) s)) (same_keeps q (then (or_false_left k j rest)))
      (same_keeps (onward_trans p q) (otherwise (or_false_right k j rest)))
  eval_agrees (S-EXTRACT {p = p} {q = q} e) W =
      both_then (eval_agrees e W) λ a b L M o operand. both_here o λ s. same_extract p q (operand s)
  eval_agrees (S-CONCAT {l = l} {k = k} e f) W =
      both_then (eval_agrees e W) λ a b L M o left.
      both_then (eval_agrees f (world_keeps o W)) λ c d L M p right.
      both_here p λ s. same_concat (same_keeps p (left (or_false_left l k s))) (right (or_false_right l k s))
