-- Logs that go on, the chains in them, and a buffer that holds a log. Assumes nothing.
use mathlib.Core.Path.{◌≡◌, refl, ap, ◌∙◌}
use mathlib.Core.Bool.{Bool, true, false}
use mathlib.Core.List.{List, [], ◌∷◌, ◌++◌, append_assoc}
use Prim.Native.Nat.{ℕ, zero, suc, ◌*◌, ◌≤◌, ◌<◌}
use native.Mathlib.Nat.{le_refl, not-suc-le-zero}
use native.Mathlib.Omega.{arith}
use lib.Dec.{eqb, eqb-zero-suc}
use lib.ListN.{length, drop, length-append, length-drop}
use lib.Seq.{get_or-append-add, get_or-append_seam}
use borrow.Author.Tests.{eq-eqb, ne_eqb, eqb-true, eqb-false}
use Rattle.memory.specs.declared.Entry.{Entry}
use Rattle.memory.specs.Log.{Log, chain, entries, entry_at, width_at, fields_of, numbers_of, holding, entry_size}

-- ------------------------------------------------------------------------------------------------
-- A log that went on

infix 20 ◌⊑◌
pub data ◌⊑◌ : Log → Log → Type 0 where
  stay : {L : Log} → L ⊑ L
  more : {L M : Log} {e : Entry} → L ⊑ M → L ⊑ (e ∷ M)

pub ⊑_trans : {K L M : Log} → K ⊑ L → L ⊑ M → K ⊑ M
⊑_trans p stay = p
⊑_trans p (more q) = more (⊑_trans p q)

pub ⊑_length : {L M : Log} → L ⊑ M → length L ≤ length M
⊑_length stay = le_refl _
⊑_length (more q) = let h = ⊑_length q in omega arith

-- ------------------------------------------------------------------------------------------------
-- Chains

pub chain_newest : (e : Entry) (L : Log) → chain (e ∷ L) (suc (length L)) ≡ record { address = e.address; byte = e.byte } ∷ chain L e.previous
unfolding chain
chain_newest e L = rw (eq-eqb (suc (length L)) (suc (length L)) refl, chain)

pub chain_older : (e : Entry) (L : Log) (h : ℕ) → h ≤ length L → chain (e ∷ L) h ≡ chain L h
unfolding chain
chain_older e L h p = rw (ne_eqb h (suc (length L)) (λ q. omega arith), chain)

-- what is appended behind an entry doesn't change its chain
pub chain_keeps : {L M : Log} (h : ℕ) → h ≤ length L → L ⊑ M → chain M h ≡ chain L h
chain_keeps h p stay = refl
chain_keeps h p (more {M = M} {e = e} q) = let k = ⊑_length q in chain_older e M h (omega arith) ∙ chain_keeps h p q

pub chain_zero : (L : Log) → chain L 0 ≡ []
unfolding chain
chain_zero [] = refl
chain_zero (e ∷ L) = rw (eqb-zero-suc (length L), chain) (chain_zero L)

-- ------------------------------------------------------------------------------------------------
-- The buffer

pub length-entries : (l : List ℕ) (n : ℕ) → length (entries l n) ≡ n
unfolding entries
length-entries l zero = refl
length-entries l (suc n) = ap suc (length-entries l n)

-- the width of an entry of the first n stands in the buffer
pub width_in_buffer : (l : List ℕ) (n i : ℕ) → i < n → width_at (entries l n) (suc i) ≡ (entry_at l (entry_size * i)).width
unfolding entries width_at
width_in_buffer l zero i h = absurd (not-suc-le-zero h)
width_in_buffer l (suc n) i h = rw (length-entries l n, width_at) (go (eqb (suc i) (suc n)) refl (width_in_buffer l n i))
  where
    go : (t : Bool) → eqb (suc i) (suc n) ≡ t → (i < n → width_at (entries l n) (suc i) ≡ (entry_at l (entry_size * i)).width)
        → elim t [ true ↦ (entry_at l (entry_size * n)).width | false ↦ width_at (entries l n) (suc i) ] ≡ (entry_at l (entry_size * i)).width
    go true e older = ap (λ (k : ℕ). (entry_at l (entry_size * k)).width) (let d = eqb-true (suc i) (suc n) e in omega arith)
    go false e older = older (let d = eqb-false (suc i) (suc n) e in omega arith)

pub length-numbers_of : (L : Log) → length (numbers_of L) ≡ entry_size * length L
unfolding numbers_of
length-numbers_of [] = refl
length-numbers_of (e ∷ L) = let h = length-numbers_of L in simp length-append (omega arith)

-- the entry whose numbers stand behind a log's
entry_at_back : (L : Log) (e : Entry) (rest : List ℕ)
    → entry_at (numbers_of L ++ (fields_of e ++ rest)) (entry_size * length L) ≡ e
unfolding entry_at
entry_at_back L e rest =
    let at = get_or-append-add (numbers_of L) (fields_of e ++ rest) in
    rw (← (length-numbers_of L), get_or-append_seam (numbers_of L) e.previous, at 1 0, at 2 0, at 3 0)

entries_numbers_of : (L : Log) (rest : List ℕ) → entries (numbers_of L ++ rest) (length L) ≡ L
unfolding entries numbers_of
entries_numbers_of [] rest = refl
entries_numbers_of (e ∷ L) rest =
    ap (λ (l : List ℕ). entries l (suc (length L))) (append_assoc (numbers_of L) (fields_of e) rest)
    ∙ (λ i. entry_at_back L e rest i ∷ entries_numbers_of L (fields_of e ++ rest) i)

-- what is put into a buffer is read back
pub entries_holding : (l : List ℕ) (L : Log) → entries (holding l L) (length L) ≡ L
unfolding holding
entries_holding l L = entries_numbers_of L (drop (entry_size * length L) l)

pub length-holding : (l : List ℕ) (L : Log) → entry_size * length L ≤ length l → length (holding l L) ≡ length l
unfolding holding
length-holding l L h = rw (length-append, length-drop, length-numbers_of) (omega arith)
