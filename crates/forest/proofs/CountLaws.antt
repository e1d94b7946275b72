-- Counting how often each number stands in a list. Assumes nothing.
use mathlib.Core.Path.{◌≡◌, refl, ap, sym, subst, ◌∙◌}
use mathlib.Core.Bool.{Bool, true, false}
use mathlib.Core.List.{List, [], ◌∷◌, ◌++◌}
use Prim.Native.Nat.{ℕ, suc, ◌+◌, ◌-◌, ◌^◌, ◌≤◌, ◌<◌}
use native.Mathlib.Numerals.{add-one}
use native.Mathlib.Omega.{arith}
use lib.Dec.{eqb}
use lib.ListN.{length, get_or, set, length-set}
use lib.Seq.{get_or-set_same, get_or-set_other}
use borrow.Author.Tests.{eqb-true, eqb-false}
use Rattle.std.specs.Prelude.{if◌then◌else◌}
use Rattle.base.specs.declared.codes.Code.TheVariants as Codes
use Rattle.base.specs.Refusals.{refusal}
use Rattle.table.specs.declared.Header.{Header}
use Rattle.table.specs.Bytes.{header}
use Rattle.forest.specs.declared.operands.Operands.{Operands}
use Rattle.forest.specs.declared.operands.Operands.TheVariants.{Leaf, One, Two, Three}
use Rattle.forest.specs.Forest.{how_often, over, operands_of, expressions_of, uses, use_rule}
use Rattle.forest.specs.Counting.{listed, AllBelow, Counted, CountedBy, Counters, count_rule}
use Rattle.forest.proofs.OperandLaws.{first_below, rest_below}

-- ------------------------------------------------------------------------------------------------
-- How often a number stands in a list

pub how_often-append : (k : ℕ) (xs ys : List ℕ) → how_often k (xs ++ ys) ≡ how_often k xs + how_often k ys
unfolding how_often
how_often-append k [] ys = omega arith
how_often-append k (x ∷ xs) ys = let h = how_often-append k xs ys in omega arith

pub how_often-length : (k : ℕ) (xs : List ℕ) → how_often k xs ≤ length xs
unfolding how_often
how_often-length k [] = omega arith
how_often-length k (x ∷ xs) = go (eqb k x) (how_often-length k xs)
  where
    go : (t : Bool) → how_often k xs ≤ length xs → (if t then 1 else 0) + how_often k xs ≤ suc (length xs)
    go true h = omega arith
    go false h = omega arith

pub at_most_three : (o : Operands) → length (listed o) ≤ 3
at_most_three Leaf = omega arith
at_most_three (One a) = omega arith
at_most_three (Two a b) = omega arith
at_most_three (Three a b c) = omega arith

-- ------------------------------------------------------------------------------------------------
-- Counters

pub counted_none : {l : List ℕ} → Counted l l []
unfolding how_often
counted_none = record { long = refl; each = λ k. omega arith }

pub counted_one : (l : List ℕ) (k : ℕ) → k < length l → Counted l (set l k (get_or l k 0 + 1)) (k ∷ [])
unfolding how_often
counted_one l k inside = record { long = length-set l k _; each = λ j. go j (eqb j k) refl }
  where
    go : (j : ℕ) (t : Bool) → eqb j k ≡ t → get_or (set l k (get_or l k 0 + 1)) j 0 ≡ get_or l j 0 + ((if t then 1 else 0) + 0)
    go j true e =
        let q = eqb-true j k e in
        let same = get_or-set_same l k (get_or l k 0 + 1) 0 inside in
        rw q (omega arith)
    go j false e = let other = get_or-set_other l k j (get_or l k 0 + 1) 0 (eqb-false j k e) in omega arith

pub counted_then : {a b c xs ys : List ℕ} → Counted a b xs → Counted b c ys → Counted a c (xs ++ ys)
counted_then {a} {b} {c} {xs} {ys} f g =
    record { long = g.long ∙ f.long; each = λ k. omega (arith, f.each k, g.each k, how_often-append k xs ys) }

pub counters_on : {m : ℕ} {a b ks : List ℕ} (n : ℕ) → Counters m a → Counted a b ks → m + length ks ≤ n → Counters n b
counters_on {ks = ks} n most f small =
    record { each = λ k. omega (arith, most.each k, f.each k, how_often-length k ks) }

-- ------------------------------------------------------------------------------------------------
-- Operand by operand

-- of operands to be counted some are left, each with a counter that has room for all of them
pub record Noted (first all left counts : List ℕ) : Type 0 where
  pub below : AllBelow (length counts) left
  pub room : Counters (2 ^ 16 - 1 - length left) counts
  pub few : length left ≤ 3
  pub whole : (after : List ℕ) → Counted counts after left → Counted first after all

pub note_first :
    {o it : Operands} {l : List ℕ} → it ≡ o → AllBelow (length l) (listed o) → Counters (2 ^ 16 - 4) l → Noted l (listed o) (listed it) l
note_first {o} {it} {l} is below most =
    let few = at_most_three o in
    rw is
    record { below = below; room = record { each = λ k. omega (arith, most.each k) }; few = few; whole = λ after c. c }

pub note_next :
    {first all left counts : List ℕ} {k : ℕ} {rest : List ℕ} → Noted first all left counts → left ≡ k ∷ rest
    → Noted first all rest (set counts k (get_or counts k 0 + 1))
note_next {first} {all} {left} {counts} {k} {rest} so is =
    let below = subst (AllBelow (length counts)) is so.below in
    let long = ap length is in
    let few = so.few in
    let one = counted_one counts k (first_below below) in
    record {
      below = rw one.long (rest_below below);
      room = counters_on (2 ^ 16 - 1 - length rest) so.room one (omega arith);
      few = omega arith;
      whole = λ after c. so.whole after (subst (λ (left : List ℕ). Counted counts after left) (sym is) (counted_then one c));
    }

pub note_last : {first all left counts : List ℕ} → Noted first all left counts → left ≡ [] → Counted first counts all
note_last {first} {all} {left} {counts} so is = so.whole counts (subst (λ (left : List ℕ). Counted counts counts left) (sym is) counted_none)

pub note_room : {first all left counts : List ℕ} {k : ℕ} {rest : List ℕ} → Noted first all left counts → left ≡ k ∷ rest → get_or counts k 0 + 1 < 2 ^ 16
note_room {k = k} so is = let long = ap length is in let few = so.few in omega (arith, so.room.each k)

pub note_place : {first all left counts : List ℕ} {k : ℕ} {rest : List ℕ} → Noted first all left counts → left ≡ k ∷ rest → k < length counts
note_place {counts = counts} so is = first_below (subst (AllBelow (length counts)) is so.below)

-- ------------------------------------------------------------------------------------------------
-- Record by record

pub count_none : {gives : ℕ → Operands → Type 0} {l : List ℕ} → CountedBy gives 0 l l
unfolding over
count_none = record { all = λ named is. counted_none; few = λ k. omega arith }

pub count_one :
    {gives : ℕ → Operands → Type 0} {i : ℕ} {first a b : List ℕ} (o : Operands) → CountedBy gives i first a → gives i o → Counted a b (listed o)
    → CountedBy gives (i + 1) first b
unfolding over
count_one {gives} {i} {first} {a} {b} o so given c =
    record {
      all = λ named is.
          rw (add-one i, over, ← is i o (omega arith) given)
          (counted_then (so.all named (λ j o h. is j o (omega arith))) c);
      few = λ k. let short = at_most_three o in omega (arith, so.few k, c.each k, how_often-length k (listed o));
    }

-- ------------------------------------------------------------------------------------------------
-- What the counters say in the end

-- counters of all uses, expressions' and then statements', tell whether refusal 8 comes
pub counted_refusal :
    (s : List ℕ) (h : Header) → h ≡ header s → {z a b : List ℕ} → Counters 0 z → Counted z a (over (operands_of s) h.expressions)
    → Counted a b (over (expressions_of s) h.statements) → refusal (count_rule b h.expressions ∷ []) ≡ refusal (use_rule s ∷ [])
unfolding use_rule uses
counted_refusal s h is {z} {a} {b} start p q =
    ap (λ (h : Header). refusal (count_rule b h.expressions ∷ [])) is
    ∙ ap (λ (f : ℕ → ℕ). refusal (record { code = Codes.Uses; places = (header s).expressions; holds = λ i. eqb (f i) 1 } ∷ [])) (λ i k. each k i)
  where
    all : Header → List ℕ
    all h = over (operands_of s) h.expressions ++ over (expressions_of s) h.statements

    each : (k : ℕ) → get_or b k 0 ≡ how_often k (all (header s))
    each k = let e = ap (λ (h : Header). how_often k (all h)) is in omega (arith, (counted_then p q).each k, start.each k)
