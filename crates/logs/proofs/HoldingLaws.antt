-- A buffer and the log that it holds: as it comes, and after one entry more. Assumes nothing.
use Rattle.std.proofs.Common.{◌≡◌, ℕ, zero, suc, ◌+◌, ◌-◌, ◌*◌, ◌<◌, ◌≤◌, List, ◌∷◌, ◌++◌, length, get_or, take, drop, sym, refl, ap, ◌∙◌, arith, take-append-drop, drop-cons, drop-drop, take_at, take-add}
use lib.Seq.{sets, sets-eq, drop-append-add}
use Rattle.memory.specs.declared.Entry.{Entry}
use Rattle.memory.specs.Log.{Log, entry_size, entry_at, entries, fields_of, numbers_of, holding}
use Rattle.memory.proofs.LogLaws.{length-numbers_of, length-holding, length-entries, entries_holding}
use Rattle.memory.specs.Room.{LogOk}
use Rattle.memory.proofs.LogRules.{entries_rules}
use Rattle.logs.specs.Held.{Holds}

-- one entry more from the front
take_entry : (l : List ℕ) (p : ℕ) → p + entry_size ≤ length l → take (p + entry_size) l ≡ take p l ++ fields_of (entry_at l p)
unfolding entry_at
take_entry l p h =
    let numbers : drop p l ≡ fields_of (entry_at l p) ++ drop (p + entry_size) l =
    one p (p + 1) (omega arith) (omega arith)
    ∙ ap (λ (m : List ℕ). get_or l p 0 ∷ m)
    (one (p + 1) (p + 2) (omega arith) (omega arith)
    ∙ ap (λ (m : List ℕ). get_or l (p + 1) 0 ∷ m)
    (one (p + 2) (p + 3) (omega arith) (omega arith)
    ∙ ap (λ (m : List ℕ). get_or l (p + 2) 0 ∷ m) (one (p + 3) (p + entry_size) (omega arith) (omega arith)))) in
    take-add p entry_size l ∙ ap (λ (m : List ℕ). take p l ++ take entry_size m) numbers
  where
    one : (q r : ℕ) → q < length l → suc q ≡ r → drop q l ≡ get_or l q 0 ∷ drop r l
    one q r k e = drop-cons l q 0 k ∙ ap (λ (n : ℕ). get_or l q 0 ∷ drop n l) e

numbers_of-entries : (l : List ℕ) (n : ℕ) → entry_size * n ≤ length l → numbers_of (entries l n) ≡ take (entry_size * n) l
unfolding numbers_of entries
numbers_of-entries l zero h = refl
numbers_of-entries l (suc n) h =
    let e : entry_size * suc n ≡ entry_size * n + entry_size = omega arith in
    ap (λ (front : List ℕ). front ++ fields_of (entry_at l (entry_size * n)))
    (numbers_of-entries l n (omega arith))
    ∙ sym (take_entry l (entry_size * n) (omega arith))
    ∙ ap (λ (k : ℕ). take k l) (sym e)

-- a buffer holds the log that it has
pub holding_entries : (l : List ℕ) (n : ℕ) → entry_size * n ≤ length l → holding l (entries l n) ≡ l
unfolding holding
holding_entries l n h =
    ap (λ (front : List ℕ). front ++ drop (entry_size * length (entries l n)) l) (numbers_of-entries l n h)
    ∙ ap (λ (k : ℕ). take (entry_size * n) l ++ drop (entry_size * k) l) (length-entries l n)
    ∙ take-append-drop (entry_size * n) l

-- an entry written behind the others
pub holding_newer : (l : List ℕ) (L : Log) (e : Entry) → entry_size * length L + entry_size ≤ length l
    → sets (holding l L) (entry_size * length L) (fields_of e) ≡ holding l (e ∷ L)
unfolding holding numbers_of
holding_newer l L e h =
    let numbers = fields_of e in
    let p = entry_size * length L in
    let n = length-numbers_of L in
    let long = length-holding l L (omega arith) in
    let on : p + entry_size ≡ length (numbers_of L) + entry_size = omega arith in
    let next : p + entry_size ≡ entry_size * suc (length L) = omega arith in
    sets-eq numbers (holding l L) p (omega arith)
    ∙ ap (λ (front : List ℕ). front ++ numbers ++ drop (p + entry_size) (holding l L)) (take_at (numbers_of L) (drop p l) p n)
    ∙ ap (λ (back : List ℕ). numbers_of L ++ numbers ++ back)
    (ap (λ (k : ℕ). drop k (holding l L)) on
    ∙ drop-append-add (numbers_of L) (drop p l) 4
    ∙ drop-drop 4 p l
    ∙ ap (λ (k : ℕ). drop k l) next)

-- a buffer that held a log and then a longer one holds the longer one
pub holding_again : (l : List ℕ) (L M : Log) → length L ≤ length M → holding (holding l L) M ≡ holding l M
unfolding holding
holding_again l L M h =
    let p = entry_size * length L in
    let k = entry_size * (length M - length L) in
    let n = length-numbers_of L in
    let on : entry_size * length M ≡ length (numbers_of L) + k = omega arith in
    let all : p + k ≡ entry_size * length M = omega arith in
    ap (λ (back : List ℕ). numbers_of M ++ back)
    (ap (λ (i : ℕ). drop i (numbers_of L ++ drop p l)) on
    ∙ drop-append-add (numbers_of L) (drop p l) k
    ∙ drop-drop k p l
    ∙ ap (λ (i : ℕ). drop i l) all)

-- a log that keeps its rules is one that code may be given again
pub holding_holds : (l : List ℕ) (L : Log) → LogOk L → entry_size * length L ≤ length l → Holds (holding l L) (length L)
holding_holds l L ok h = record {
  room = rw (length-holding l L h) h;
  rules = λ n k. entries_rules (holding l L) (length L) n (rw (entries_holding l L) ok) k;
}
