-- A chain in a buffer: what it has at an entry, and where it goes on. Assumes nothing.
use Rattle.std.proofs.Common.{◌≡◌, ℕ, zero, suc, ◌-◌, ◌*◌, ◌<◌, ◌≤◌, List, ◌∷◌, sym, ap, ◌∙◌, arith, eq-eqb, ne_eqb}
use native.Mathlib.Decide.{dec_lt}
use Rattle.memory.specs.declared.Entry.{Entry}
use Rattle.memory.specs.Log.{Cell, entry_size, unknown_byte, entry_at, entries, chain}
use Rattle.memory.specs.Access.{byte_at}
use Rattle.memory.proofs.LogLaws.{◌⊑◌, stay, more, length-entries, chain_newest, chain_zero, chain_keeps}
use Rattle.memory.proofs.LogRules.{follows}
use Rattle.logs.specs.Held.{Holds}

-- the first entries of a buffer are where more of them began
pub entries_on : (l : List ℕ) (n m : ℕ) → n ≤ m → entries l n ⊑ entries l m
unfolding entries
entries_on l n zero h = let e : n ≡ 0 = omega arith in rw e stay
entries_on l n (suc m) h = go (dec_lt n (suc m)) (entries_on l n m)
  where
    go : Dec (n < suc m) → (n ≤ m → entries l n ⊑ entries l m) → entries l n ⊑ entries l (suc m)
    go (yes k) ih = more (ih (omega arith))
    go (no k) ih = let e : n ≡ suc m = omega arith in rw e stay

-- an entry's chain doesn't depend on how many entries follow
pub chain_of : (l : List ℕ) (n m head : ℕ) → n ≤ m → head ≤ n → chain (entries l m) head ≡ chain (entries l n) head
chain_of l n m head h k = chain_keeps head (omega (arith, length-entries l n)) (entries_on l n m h)

cell_at : List ℕ → ℕ → Cell
cell_at l n = let e = entry_at l (entry_size * n) in record { address = e.address; byte = e.byte }

newest_chain : (l : List ℕ) (n : ℕ) → chain (entries l (suc n)) (suc n) ≡ cell_at l n ∷ chain (entries l n) (entry_at l (entry_size * n)).previous
unfolding entries cell_at
newest_chain l n =
    ap (λ (k : ℕ). chain (entries l (suc n)) (suc k)) (sym (length-entries l n)) ∙ chain_newest (entry_at l (entry_size * n)) (entries l n)

module _ {l : List ℕ} {count : ℕ} (h : Holds l count) where
  previous_first : (n : ℕ) → n < count → (entry_at l (entry_size * n)).previous ≤ n
  unfolding entries
  previous_first n k =
      let e = length-entries l n in
      let f = (follows (entry_at l (entry_size * n)) (entries l n) (h.rules (suc n) k)).link.most in
      omega arith

  -- the chain of an entry: the entry itself, then its previous entry's chain
  chain_at : (n : ℕ) → n < count → chain (entries l count) (suc n) ≡ cell_at l n ∷ chain (entries l count) (entry_at l (entry_size * n)).previous
  chain_at n k =
      chain_of l (suc n) count (suc n) k (omega arith)
      ∙ newest_chain l n
      ∙ ap (λ (older : List Cell). cell_at l n ∷ older) (sym (chain_of l n count (entry_at l (entry_size * n)).previous (omega arith) (previous_first n k)))

  -- a walk that has come to an entry, or to none
  module _ (at a : ℕ) where
    pub at_none : at ≡ 0 → byte_at (chain (entries l count) at) a ≡ unknown_byte
    unfolding byte_at
    at_none e = rw (e, chain_zero (entries l count))

    -- e is the entry
    module _ (some : at ≡ 0 → ⊥) (most : at ≤ count) {e : Entry} (is : e ≡ entry_at l (entry_size * (at - 1))) where
      here : chain (entries l count) at ≡ record { address = e.address; byte = e.byte } ∷ chain (entries l count) e.previous
      unfolding cell_at
      here = let n : suc (at - 1) ≡ at = omega arith in rw is (ap (chain (entries l count)) (sym n) ∙ chain_at (at - 1) (omega arith))

      pub previous_lower : e.previous < at
      previous_lower = let p = previous_first (at - 1) (omega arith) in rw is (omega arith)

      pub at_address : e.address ≡ a → byte_at (chain (entries l count) at) a ≡ e.byte
      unfolding byte_at
      at_address same = rw (here, byte_at, eq-eqb _ _ same)

      pub at_other : (e.address ≡ a → ⊥) → byte_at (chain (entries l count) at) a ≡ byte_at (chain (entries l count) e.previous) a
      unfolding byte_at
      at_other other = rw (here, byte_at, ne_eqb _ _ other)
