-- Stores of one value, and an expression that hands down the let it stands in. Assumes nothing.
use mathlib.Core.Path.{◌≡◌, refl, sym, subst, ◌∙◌}
use mathlib.Core.List.{List, [], ◌∷◌, ◌++◌}
use Prim.Native.Nat.{ℕ, ◌+◌, ◌<◌}
use native.Mathlib.Decide.{dec_lt}
use native.Mathlib.Omega.{arith}
use lib.ListN.{length, get_or, set, length-set}
use lib.Seq.{get_or-set_same, get_or-set_other}
use Rattle.table.specs.declared.Node.{Node}
use Rattle.table.specs.Fields.{operands, expression_row}
use Rattle.forest.specs.Forest.{how_often}
use Rattle.forest.specs.declared.operands.Operands.{Operands}
use Rattle.forest.specs.Counting.{listed, AllBelow, Stands}
use Rattle.scope.specs.Scoping.{Stored, HandedDown}
use Rattle.forest.proofs.CountLaws.{how_often-append}
use Rattle.forest.proofs.OperandLaws.{first_below, rest_below}
use Rattle.scope.proofs.ScopeLaws.{body_stands}
use Rattle.forest.proofs.StandsLaws.{stands_first, stands_nowhere, stands_below, in_one}

-- ------------------------------------------------------------------------------------------------
-- Stores of one value

pub stored_none : {v : ℕ} {l : List ℕ} → Stored v [] l l
stored_none = record { long = refl; here = λ k h. stands_nowhere h; other = λ k h. refl }

stands_one : {k j : ℕ} → Stands k (j ∷ []) → k ≡ j
stands_one {j = j} h = in_one (λ (k : ℕ). k ≡ j) h refl

pub stored_one : (l : List ℕ) (k v : ℕ) → k < length l → Stored v (k ∷ []) l (set l k v)
stored_one l k v inside =
    record {
      long = length-set l k v;
      here = λ j h. rw (stands_one h) (get_or-set_same l k v 0 inside);
      other = λ j h. get_or-set_other l k j v 0 (λ e. h (subst (λ (j : ℕ). Stands j (k ∷ [])) (sym e) (stands_first k [])));
    }

pub stored_then : {v : ℕ} {a b c xs ys : List ℕ} → Stored v xs a b → Stored v ys b c → Stored v (xs ++ ys) a c
stored_then {v} {a} {b} {c} {xs} {ys} f g =
    record {
      long = g.long ∙ f.long;
      here = λ k h. go k h (dec_lt 0 (how_often k ys));
      other = λ k h. g.other k (λ q. h (right k q)) ∙ f.other k (λ q. h (left k q));
    }
  where
    left : (k : ℕ) → Stands k xs → Stands k (xs ++ ys)
    left k h = record { counts = omega (arith, h.counts, how_often-append k xs ys) }

    right : (k : ℕ) → Stands k ys → Stands k (xs ++ ys)
    right k h = record { counts = omega (arith, h.counts, how_often-append k xs ys) }

    go : (k : ℕ) → Stands k (xs ++ ys) → Dec (0 < how_often k ys) → get_or c k 0 ≡ v
    go k h (yes d) = g.here k (record { counts = d })
    go k h (no d) =
        g.other k (λ q. let n = q.counts in omega arith) ∙ f.here k (record { counts = omega (arith, h.counts, how_often-append k xs ys) })

-- of operands at which v is to be stored some are left, each with its place
pub record Storing (v : ℕ) (first all left lets : List ℕ) : Type 0 where
  pub below : AllBelow (length lets) left
  pub whole : (after : List ℕ) → Stored v left lets after → Stored v all first after

pub storing_first : {v : ℕ} {o it : Operands} {l : List ℕ} → it ≡ o → AllBelow (length l) (listed o) → Storing v l (listed o) (listed it) l
storing_first is below = rw is record { below = below; whole = λ after f. f }

pub storing_next :
    {v : ℕ} {first all left lets : List ℕ} {k : ℕ} {rest : List ℕ} → Storing v first all left lets → left ≡ k ∷ rest
    → Storing v first all rest (set lets k v)
storing_next {v} {first} {all} {left} {lets} {k} {rest} so is =
    let below = subst (AllBelow (length lets)) is so.below in
    let one = stored_one lets k v (first_below below) in
    record {
      below = rw one.long (rest_below below);
      whole = λ after f. so.whole after (subst (λ (left : List ℕ). Stored v left lets after) (sym is) (stored_then one f));
    }

pub storing_place : {v : ℕ} {first all left lets : List ℕ} {k : ℕ} {rest : List ℕ} → Storing v first all left lets → left ≡ k ∷ rest → k < length lets
storing_place {lets = lets} so is = first_below (subst (AllBelow (length lets)) is so.below)

pub storing_last : {v : ℕ} {first all left lets : List ℕ} → Storing v first all left lets → left ≡ [] → Stored v all first lets
storing_last {v} {lets = lets} so is = so.whole lets (subst (λ (left : List ℕ). Stored v left lets lets) (sym is) stored_none)

-- ------------------------------------------------------------------------------------------------
-- Handing down

module _ (r : Node) (i : ℕ) {a b ks : List ℕ} (named : ks ≡ operands (expression_row r) r) (f : Stored (get_or a i 0) ks a b) where
  stored : Stored (get_or a i 0) (operands (expression_row r) r) a b
  stored = subst (λ (ks : List ℕ). Stored (get_or a i 0) ks a b) named f

  pub handed_to_all : (r.op ≡ 8 → ⊥) → HandedDown r i a b
  handed_to_all no-let =
      record { long = f.long; body = λ e. absurd (no-let e); operand = λ k h n. stored.here k h; other = stored.other }

  -- whatever was stored at a let's body alone
  pub handed_to_place : {c : List ℕ} → r.op ≡ 8 → Stored (i + 1) (r.c ∷ []) b c → HandedDown r i a c
  handed_to_place op g =
      record {
        long = g.long ∙ f.long;
        body = λ e. g.here r.c (stands_first r.c []);
        operand = λ k h n. g.other k (λ q. n op (sym (stands_one q))) ∙ stored.here k h;
        other = λ k h.
            g.other k (λ q. h (subst (λ (k : ℕ). Stands k (operands (expression_row r) r)) (sym (stands_one q)) (body_stands r op)))
            ∙ stored.other k h;
      }

  -- a let's body has its place
  pub body_place : r.op ≡ 8 → AllBelow (length a) (operands (expression_row r) r) → r.c < length b
  body_place op below = rw f.long (stands_below below (body_stands r op))

  pub handed_to_body : r.op ≡ 8 → AllBelow (length a) (operands (expression_row r) r) → HandedDown r i a (set b r.c (i + 1))
  handed_to_body op below = handed_to_place op (stored_one b r.c (i + 1) (body_place op below))
