-- Logs that keep their rules, and what stays of their entries when they go on. Assumes nothing.
use mathlib.Core.Path.{◌≡◌, refl, ◌∙◌}
use mathlib.Core.Bool.{Bool, true, false, ◌||◌, and-eq-true_iff}
use mathlib.Core.List.{List, ◌∷◌}
use Prim.Native.Nat.{ℕ, zero, suc, ◌≤◌, ◌<◌}
use native.Mathlib.Omega.{arith}
use lib.Dec.{leb, eqb}
use lib.ListN.{length}
use borrow.Author.Tests.{leb-true, ltb-true, eqb-true, eqb-false, le-leb, lt-ltb, eq-eqb, ne_eqb}
use Rattle.base.proofs.BoolLaws.{and_both}
use Rattle.memory.specs.declared.Entry.{Entry}
use Rattle.memory.specs.Log.{Log, entries, width_at, newest_ok}
use Rattle.memory.specs.Room.{Follows, LogOk, empty, newer, InRoom}
use Rattle.memory.specs.Typed.{Link, Head}
use Rattle.memory.proofs.LogLaws.{◌⊑◌, stay, more, ⊑_length}

-- ------------------------------------------------------------------------------------------------
-- Refusal 17 asks for no more and no less

or_link : (L : Log) (w n : ℕ) → (eqb n 0 || eqb (width_at L n) w) ≡ true → (n ≡ 0 → ⊥) → width_at L n ≡ w
or_link L w n h k = eqb-true _ _ (rw (ne_eqb n 0 k) at h)

link_or : (L : Log) (w n : ℕ) → ((n ≡ 0 → ⊥) → width_at L n ≡ w) → (eqb n 0 || eqb (width_at L n) w) ≡ true
link_or L w n k = go (eqb n 0) refl
  where
    go : (t : Bool) → eqb n 0 ≡ t → (t || eqb (width_at L n) w) ≡ true
    go true e = refl
    go false e = eq-eqb _ _ (k (eqb-false n 0 e))

pub follows : (e : Entry) (L : Log) → newest_ok (e ∷ L) ≡ true → Follows e L
unfolding newest_ok
follows e L h =
    let p = (and-eq-true_iff _ _).0 h in
    let q = (and-eq-true_iff _ _).0 p.1 in
    let r = (and-eq-true_iff _ _).0 q.1 in
    let s = (and-eq-true_iff _ _).0 r.1 in
    let w = (and-eq-true_iff (leb 1 e.width) (leb e.width 64)).0 q.0 in
    record {
      link = record { most = leb-true _ _ p.0; width = or_link L e.width e.previous s.1 };
      width = record { least = leb-true _ _ w.0; most = leb-true _ _ w.1 };
      address = ltb-true _ _ r.0;
      byte = leb-true _ _ s.0;
    }

pub newest-ok : {L : Log} → LogOk L → newest_ok L ≡ true
unfolding newest_ok
newest-ok empty = refl
newest-ok (newer {e = e} {L = L} f o) =
    and_both (le-leb _ _ f.link.most)
    (and_both (and_both (le-leb _ _ f.width.least) (le-leb _ _ f.width.most))
    (and_both (lt-ltb _ _ f.address)
    (and_both (le-leb _ _ f.byte) (link_or L e.width e.previous f.link.width))))

-- the log of a buffer keeps its rules if the newest entry does at every count
pub entries_ok : (l : List ℕ) (n : ℕ) → ((m : ℕ) → m ≤ n → newest_ok (entries l m) ≡ true) → LogOk (entries l n)
unfolding entries
entries_ok l zero h = empty
entries_ok l (suc n) h = newer (follows _ _ (h (suc n) (omega arith))) (entries_ok l n (λ m k. h m (omega arith)))

pub entries_rules : (l : List ℕ) (n m : ℕ) → LogOk (entries l n) → m ≤ n → newest_ok (entries l m) ≡ true
unfolding entries
entries_rules l zero m o h = let e : m ≡ 0 = omega arith in rw e (newest-ok o)
entries_rules l (suc n) m (newer f o) h = go (eqb m (suc n)) refl (entries_rules l n m o)
  where
    go : (t : Bool) → eqb m (suc n) ≡ t → (m ≤ n → newest_ok (entries l m) ≡ true) → newest_ok (entries l m) ≡ true
    go true e k = rw (eqb-true m (suc n) e) (newest-ok (newer f o))
    go false e k = let d = eqb-false m (suc n) e in k (omega arith)

-- ------------------------------------------------------------------------------------------------
-- Entries of a log that goes on

-- the newest entry's width
pub width_newest : (e : Entry) (L : Log) → width_at (e ∷ L) (suc (length L)) ≡ e.width
unfolding width_at
width_newest e L = rw (eq-eqb (suc (length L)) (suc (length L)) refl, width_at)

pub newest_link : (e : Entry) (L : Log) → Link (e ∷ L) e.width (suc (length L))
newest_link e L = record { most = omega arith; width = λ k. width_newest e L }

pub in_room_newer : {room : ℕ} {e : Entry} {L : Log} → Follows e L → InRoom room L → length L < room → InRoom room (e ∷ L)
in_room_newer f k h = record { ok = newer f k.ok; most = h }

-- an entry's width stays
pub width_stays : {L M : Log} {n : ℕ} → L ⊑ M → n ≤ length L → width_at M n ≡ width_at L n
unfolding width_at
width_stays stay h = refl
width_stays {n = n} (more {M = M} p) h = rw (ne_eqb n (suc (length M)) (omega (arith, ⊑_length p)), width_at) (width_stays p h)

pub link_stays : {L M : Log} {w n : ℕ} → L ⊑ M → Link L w n → Link M w n
link_stays p l = record { most = omega (arith, ⊑_length p); width = λ k. width_stays p l.most ∙ l.width k }

pub head_stays : {L M : Log} {w n : ℕ} → L ⊑ M → Head L w n → Head M w n
head_stays p h = record { least = h.least; link = link_stays p h.link }
