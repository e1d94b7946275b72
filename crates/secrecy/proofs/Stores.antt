-- Two stores side by side: how much is appended is open, whatever is stored. Assumes nothing.
use mathlib.Core.Path.{◌≡◌, refl, sym, ap, ◌∙◌}
use mathlib.Core.Bool.{Bool, true, false, ◌||◌}
use mathlib.Core.List.{List, [], ◌∷◌}
use Prim.Native.Nat.{ℕ, suc, ◌≤◌}
use native.Mathlib.Omega.{arith}
use lib.Dec.{ltb}
use lib.ListN.{length}
use Rattle.base.proofs.BoolLaws.{or_false_left, or_false_right}
use Rattle.value.specs.declared.Value.{Value}
use Rattle.value.specs.Values.{size}
use Rattle.memory.specs.Log.{Log, chain}
use Rattle.memory.specs.Access.{append, store, bytes_in, succ}
use Rattle.memory.proofs.LogLaws.{stay, more, chain_newest}
use Rattle.memory.proofs.AccessLaws.{length-bytes_in, entry, append_fits, append_full}
use Rattle.evaluation.specs.Evaluation.{after_store}
use Rattle.secrecy.proofs.Same.{Same, same_word, same_unknown, same_memory, here, same-type, same_bytes, same_heads, same_unknowns, same_memories}
use Rattle.secrecy.proofs.Both.{Both, both_value, both_stopped, both_after}

-- ------------------------------------------------------------------------------------------------
-- Bytes appended

-- what two stores share where the memory that they make is open
record Alike (L M : Log) (w v : ℕ) (bytes others : List ℕ) (h k a c : ℕ) : Type 0 where
  width : w ≡ v
  stored_bytes : bytes ≡ others
  address : a ≡ c
  below : h ≤ length L
  below' : k ≤ length M
  chains : chain L h ≡ chain M k

alike_next : (L M : Log) (w v b d : ℕ) (bytes others : List ℕ) (h k a c : ℕ) → Alike L M w v (b ∷ bytes) (d ∷ others) h k a c
    → Alike (entry w h a b ∷ L) (entry v k c d ∷ M) w v bytes others (suc (length L)) (suc (length M)) (succ w a) (succ v c)
alike_next L M w v b d bytes others h k a c s =
    let byte : b ≡ d = let e = s.stored_bytes in cc in
    record {
      width = s.width;
      stored_bytes = let e = s.stored_bytes in cc;
      address = let e = s.width in let f = s.address in cc;
      below = omega arith;
      below' = omega arith;
      chains = chain_newest (entry w h a b) L ∙ (let e = s.address in let f = s.chains in cc) ∙ sym (chain_newest (entry v k c d) M);
    }

module _ (room : ℕ) (l : Bool) where
  append_both : (bytes others : List ℕ) (L M : Log) (w v h k a c : ℕ) → length bytes ≡ length others → length L ≡ length M
      → (l ≡ false → Alike L M w v bytes others h k a c)
      → Both l L M (after_store (append room w bytes h a L)) (after_store (append room v others k c M))
  unfolding append after_store
  append_both [] [] L M w v h k a c p n s =
      both_value (here n) λ o. let t = s o in same_memories t.width t.below t.below' t.chains
  append_both [] (d ∷ others) L M w v h k a c p n s = absurd (omega arith)
  append_both (b ∷ bytes) [] L M w v h k a c p n s = absurd (omega arith)
  append_both (b ∷ bytes) (d ∷ others) L M w v h k a c p n s =
      go (ltb (length L) room) refl
      (append_both bytes others (entry w h a b ∷ L) (entry v k c d ∷ M) w v (suc (length L)) (suc (length M)) (succ w a) (succ v c)
      (omega arith) (omega arith) (λ o. alike_next L M w v b d bytes others h k a c (s o)))
    where
      go : (t : Bool) → ltb (length L) room ≡ t
          → Both l (entry w h a b ∷ L) (entry v k c d ∷ M)
          (after_store (append room w bytes (suc (length L)) (succ w a) (entry w h a b ∷ L)))
          (after_store (append room v others (suc (length M)) (succ v c) (entry v k c d ∷ M)))
          → Both l L M (after_store (append room w (b ∷ bytes) h a L)) (after_store (append room v (d ∷ others) k c M))
      go true e r =
          let f : ltb (length M) room ≡ true = rw n at e in
          rw (append_fits room w b bytes h a L e, append_fits room v d others k c M f)
          (both_after (record { first = more stay; second = more stay; counts = ap suc n }) r)
      go false e r =
          let f : ltb (length M) room ≡ false = rw n at e in
          rw (append_full room w b bytes h a L e, append_full room v d others k c M f) (both_stopped (here n))

-- ------------------------------------------------------------------------------------------------
-- The store: of a memory, an open address, and a value

module _ (room z : ℕ) (big : Bool) where
  pub store_both : {L M : Log} {l k : Bool} {u v a b x y : Value} → length L ≡ length M
      → (l ≡ false → Same L M u v) → Same L M a b → (k ≡ false → Same L M x y)
      → Both (l || k) L M (after_store (store room L z big u a x)) (after_store (store room M z big v b y))
  unfolding store after_store
  store_both {L} {M} {l} {k} {u} {v} {x = x} {y = y} n m same_word s =
      append_both room (l || k) (bytes_in z big x) (bytes_in z big y) L M _ _ _ _ _ _ (length-bytes_in z big x ∙ sym (length-bytes_in z big y)) n λ o.
      let memories = m (or_false_left l k o) in
      let (below, below', chains) = same_heads memories in
      record {
        width = ap size (same-type memories);
        stored_bytes = same_bytes z big (s (or_false_right l k o));
        address = refl;
        below = below;
        below' = below';
        chains = chains;
      }
  store_both {l = l} {k} n m same_unknown s = both_value (here n) (λ o. same_unknowns (same-type (m (or_false_left l k o))))
  store_both {l = l} {k} n m (same_memory p q c) s = both_value (here n) (λ o. same_unknowns (same-type (m (or_false_left l k o))))
