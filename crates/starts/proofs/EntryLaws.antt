-- The log's rules of the newest entry, its numbers first and then its previous entry. Assumes nothing.
use Rattle.std.proofs.Common.{◌≡◌, refl, sym, ap, ◌∙◌, Bool, true, false, ◌&&◌, ◌||◌, List, [], ◌∷◌, ℕ, suc, ◌+◌, ◌-◌, ◌*◌, ◌^◌, ◌≤◌, ◌<◌, arith, le-leb, leb, ltb, eqb, length}
use Rattle.base.specs.Choice.{within}
use Rattle.memory.specs.declared.Entry.{Entry}
use Rattle.memory.specs.Log.{Log, entry_size, unknown_byte, entry_at, entries, width_at, newest_ok}
use Rattle.memory.proofs.LogLaws.{length-entries, width_in_buffer}
use Rattle.base.proofs.BoolLaws.{passed, failed, and_both, fails_here, goes_on}
use Rattle.base.specs.declared.codes.Code.TheVariants as Codes
use Rattle.base.specs.Refusals.{Answer, Searched, refusal}
use Rattle.running.specs.Start.{entry_rule}

regroup : (p w a b l : Bool) → (p && (w && (a && (b && l)))) ≡ ((w && (a && b)) && (p && l))
regroup true true true true l = refl
regroup true true true false l = refl
regroup true true false b l = refl
regroup true false a b l = refl
regroup false true true true l = refl
regroup false true true false l = refl
regroup false true false b l = refl
regroup false false a b l = refl

-- an entry's numbers are in their limits
abbrev pub in_limits : Entry → Bool
in_limits e = within 1 64 e.width && (ltb e.address (2 ^ e.width) && leb e.byte unknown_byte)

-- it has no previous entry, or one of the n in a log that has the same width
abbrev pub linked : Log → ℕ → Entry → Bool
linked L n e = leb e.previous n && (eqb e.previous 0 || eqb (width_at L e.previous) e.width)

regrouped : (L : Log) (n : ℕ) (e : Entry) → length L ≡ n → newest_ok (e ∷ L) ≡ (in_limits e && linked L n e)
unfolding newest_ok
regrouped L n e h =
    rw h
    (regroup (leb e.previous n) (within 1 64 e.width) (ltb e.address (2 ^ e.width)) (leb e.byte unknown_byte)
    (eqb e.previous 0 || eqb (width_at L e.previous) e.width))

-- entry n of a buffer, with those before it
pub newest_regrouped : (l : List ℕ) (n before : ℕ) {e : Entry} → n ≡ suc before → e ≡ entry_at l (entry_size * before)
    → newest_ok (entries l n) ≡ (in_limits e && linked (entries l before) before e)
unfolding entries
newest_regrouped l n i later is = rw (later, is) (regrouped (entries l i) i (entry_at l (entry_size * i)) (length-entries l i))

module _ (l : List ℕ) (n : ℕ) {e : Entry} {a : Bool} (first : 1 ≤ n) (is : e ≡ entry_at l (entry_size * (n - 1))) (limits : a ≡ in_limits e) where
  -- numbers that are in their limits leave the previous entry to decide
  pub entry_goes_on : {b : Bool} → a ≡ true → b ≡ linked (entries l (n - 1)) (n - 1) e → b ≡ newest_ok (entries l n)
  entry_goes_on t there = goes_on {a = in_limits e} (passed limits t) there ∙ sym (newest_regrouped l n (n - 1) (omega arith) is)

  pub entry_fails : a ≡ false → false ≡ newest_ok (entries l n)
  entry_fails t = fails_here {a = in_limits e} _ (failed limits t) ∙ sym (newest_regrouped l n (n - 1) (omega arith) is)

-- an entry of the first count has its width in the buffer
pub head_is : (l : List ℕ) (count w n : ℕ) {e : Entry} → 1 ≤ n → n ≤ count → e ≡ entry_at l (entry_size * (n - 1))
    → eqb e.width w ≡ (within 1 count n && eqb (width_at (entries l count) n) w)
head_is l count w n first inside is =
    let i = n - 1 in
    let named : suc i ≡ n = omega arith in
    let width = ap (width_at (entries l count)) (sym named) ∙ width_in_buffer l count i (omega arith) ∙ ap (λ (e : Entry). e.width) (sym is) in
    goes_on (and_both (le-leb 1 n first) (le-leb n count inside)) (ap (λ (x : ℕ). eqb x w) (sym width))

-- the empty log keeps its rules
pub empty_holds : (l : List ℕ) (n : ℕ) → n ≡ 0 → true ≡ newest_ok (entries l n)
unfolding newest_ok entries
empty_holds l n e = rw e refl

-- what a search over the entries answers, which passes over 0
pub entries_searched :
    (l : List ℕ) (count : ℕ) {Tells : ℕ → Bool → Type 0} {answer : Answer} → Searched Tells Codes.Entry (count + 1) answer
    → ((n : ℕ) (b : Bool) → n < count + 1 → Tells n b → b ≡ newest_ok (entries l n)) → answer ≡ refusal (entry_rule l count ∷ [])
entries_searched l count found told = found (entry_rule l count) refl (omega arith) told
