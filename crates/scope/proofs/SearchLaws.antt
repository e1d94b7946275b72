-- Keeping, from the last expression down, the nearest let of each expression and the lowest place that breaks the rule. Assumes nothing.
use mathlib.Core.Path.{◌≡◌, refl, ap, sym, subst, ◌∙◌}
use mathlib.Core.List.{List, [], ◌∷◌}
use mathlib.Core.Bool.{Bool, true, false}
use Prim.Native.Nat.{ℕ, ◌+◌, ◌≤◌, ◌<◌}
use native.Mathlib.Decide.{dec_lt}
use native.Mathlib.Omega.{arith}
use borrow.Author.Tests.{eqb-true, eqb-false}
use lib.Dec.{eqb}
use lib.ListN.{length, get_or, replicate, get_or-replicate}
use Rattle.std.specs.Prelude.{Option, Some, None}
use Rattle.base.specs.declared.codes.Code.TheVariants as Codes
use Rattle.base.specs.Refusals.{Accepted, Refused, refusal}
use Rattle.base.proofs.RefusalLaws.{one_rule_accepted, one_rule_refused}
use Rattle.table.specs.declared.Node.{Node}
use Rattle.table.specs.Bytes.{header, expression}
use Rattle.table.specs.Fields.{operands, expression_row}
use Rattle.table.specs.Records.{RecordsHold}
use Rattle.forest.specs.Forest.{how_often, operands_of, in_scope, use_rule, scope_rule}
use Rattle.forest.specs.Counting.{Stands}
use Rattle.scope.specs.Scoping.{Leads, Nearest, NearestFrom, HandedDown}
use Rattle.scope.proofs.InsideLaws.{operand_below}
use Rattle.scope.proofs.ScopeLaws.{no_user, body_step, other_step}

-- of the expressions from i on the lowest at which the rule fails
pub data Lowest (s : List ℕ) (i : ℕ) : Option ℕ → Type 0 where
  nowhere : ((k : ℕ) → i ≤ k → k < (header s).expressions → in_scope s k ≡ true) → Lowest s i None
  place :
      {bad : ℕ} → bad < (header s).expressions → ((k : ℕ) → i ≤ k → k < bad → in_scope s k ≡ true) → in_scope s bad ≡ false
      → Lowest s i (Some bad)

-- each expression that none below i uses has its nearest let, and it is known where the rule fails from i on
pub record Searched (s lets : List ℕ) (i : ℕ) (lowest : Option ℕ) : Type 0 where
  pub each : (k : ℕ) → k < (header s).expressions → ((j : ℕ) → j < i → Stands k (operands_of s j) → ⊥) → Nearest s k (get_or lets k 0)
  pub from : Lowest s i lowest

holds_here : (s : List ℕ) {i : ℕ} → in_scope s i ≡ true → (k : ℕ) → i ≤ k → (i + 1 ≤ k → in_scope s k ≡ true) → in_scope s k ≡ true
holds_here s {i} holds k from later = go (dec_lt i k)
  where
    go : Dec (i < k) → in_scope s k ≡ true
    go (yes d) = later (omega arith)
    go (no d) = let same : k ≡ i = omega arith in rw same holds

-- one expression more, at which the rule holds, and one at which it fails
lowest_on : (s : List ℕ) {i : ℕ} {o : Option ℕ} → in_scope s i ≡ true → Lowest s (i + 1) o → Lowest s i o
lowest_on s here (nowhere holds) = nowhere (λ k from inside. holds_here s here k from (λ later. holds k later inside))
lowest_on s here (place inside holds fails) = place inside (λ k from below. holds_here s here k from (λ later. holds k later below)) fails

lowest_here : (s : List ℕ) {i : ℕ} → i < (header s).expressions → in_scope s i ≡ false → Lowest s i (Some i)
lowest_here s l fails = place l (λ k from below. absurd (omega arith)) fails

module _ (s : List ℕ) (hold : RecordsHold s) where
  pub search_starts :
      {lets : List ℕ} (n : ℕ) → n ≡ (header s).expressions → n ≤ length lets → lets ≡ replicate (length lets) 0 → Searched s lets n None
  search_starts {lets} n all long zeros =
      record {
        each = λ k l alone.
            record {
              outside = λ e x. no_user s hold x k (λ j m. alone j (omega arith));
              inside = λ m e.
                  let zero = ap (λ (z : List ℕ). get_or z k 0) zeros ∙ get_or-replicate {A = ℕ} (length lets) k 0 0 (omega arith) in
                  absurd (omega arith);
            };
        from = nowhere (λ k from inside. absurd (omega arith));
      }

  -- users come later, so that from i on each has its nearest let
  pub search_near : {lets : List ℕ} {n : ℕ} {low : Option ℕ} (i : ℕ) → n ≡ i + 1 → Searched s lets n low → n ≤ (header s).expressions → NearestFrom s lets i
  search_near i next so most =
      record { each = λ k from l. so.each k l (λ j below h. let b = operand_below s hold (omega arith) h in omega arith) }

  module _ (accepted : refusal (use_rule s ∷ []) ≡ Accepted) {i : ℕ} (l : i < (header s).expressions) where
    -- an operand that is not a let's body has the nearest let of its user
    nearest_same :
        {k v : ℕ} → Stands k (operands_of s i) → ((expression s i).op ≡ 8 → (expression s i).c ≡ k → ⊥) → Nearest s i v → Nearest s k v
    nearest_same {k} {v} p other near =
        let below = operand_below s hold l p in
        record {
          outside = λ e x. other_step s hold accepted l p x other ∙ near.outside e x;
          inside = λ m e.
              let on = near.inside m e in
              let later = on.later in
              record {
                op = on.op;
                later = omega arith;
                counted = on.counted;
                each = λ x. other_step s hold accepted l p x other ∙ on.each x;
              };
        }

    -- a let's body has that let
    nearest_body : {k : ℕ} → Stands k (operands_of s i) → (expression s i).op ≡ 8 → (expression s i).c ≡ k → Nearest s k (i + 1)
    nearest_body {k} p op is =
        record {
          outside = λ e. absurd (omega arith);
          inside = λ m e.
              let same : i ≡ m = omega arith in
              subst (Leads s k) same
              (record { op = op; later = operand_below s hold l p; counted = l; each = λ x. body_step s hold accepted l p x op is });
        }

    module _
        {a b : List ℕ} {n : ℕ} {low : Option ℕ} (next : n ≡ i + 1) (so : Searched s a n low) {r : Node} (is : r ≡ expression s i) (handed : HandedDown r i a b)
      where
        down : HandedDown (expression s i) i a b
        down = subst (λ (r : Node). HandedDown r i a b) is handed

        near : Nearest s i (get_or a i 0)
        near = so.each i l (λ j below h. let e = operand_below s hold (omega arith) h in omega arith)

        named : (k : ℕ) → Stands k (operands_of s i) → Stands k (operands (expression_row (expression s i)) (expression s i))
        unfolding operands_of
        named k p = p

        unnamed : (k : ℕ) → (Stands k (operands_of s i) → ⊥) → Stands k (operands (expression_row (expression s i)) (expression s i)) → ⊥
        unfolding operands_of
        unnamed k p = p

        operand_has : (k : ℕ) → Stands k (operands_of s i) → Nearest s k (get_or b k 0)
        operand_has k p = go (eqb (expression s i).op 8) (eqb (expression s i).c k) refl refl
          where
            plain : ((expression s i).op ≡ 8 → (expression s i).c ≡ k → ⊥) → Nearest s k (get_or b k 0)
            plain other = subst (Nearest s k) (sym (down.operand k (named k p) other)) (nearest_same p other near)

            go : (t u : Bool) → eqb (expression s i).op 8 ≡ t → eqb (expression s i).c k ≡ u → Nearest s k (get_or b k 0)
            go true true e f =
                let op = eqb-true (expression s i).op 8 e in
                let is = eqb-true (expression s i).c k f in
                subst (Nearest s k) (sym (ap (λ (k : ℕ). get_or b k 0) (sym is) ∙ down.body op)) (nearest_body p op is)
            go true false e f = plain (λ op. eqb-false (expression s i).c k f)
            go false u e f = plain (λ op. absurd (eqb-false (expression s i).op 8 e op))

        all_have : (k : ℕ) → k < (header s).expressions → ((j : ℕ) → j < i → Stands k (operands_of s j) → ⊥) → Nearest s k (get_or b k 0)
        all_have k m alone = go (dec_lt 0 (how_often k (operands_of s i)))
          where
            none_yet : (Stands k (operands_of s i) → ⊥) → (j : ℕ) → Dec (j < i) → j < n → Stands k (operands_of s j) → ⊥
            none_yet no_one j (yes d) below h = alone j d h
            none_yet no_one j (no d) below h = let e : j ≡ i = omega arith in no_one (subst (λ (j : ℕ). Stands k (operands_of s j)) e h)

            go : Dec (0 < how_often k (operands_of s i)) → Nearest s k (get_or b k 0)
            go (yes d) = operand_has k (record { counts = d })
            go (no d) =
                let no_one : Stands k (operands_of s i) → ⊥ = λ h. let c = h.counts in omega arith in
                subst (Nearest s k) (sym (down.other k (unnamed k no_one))) (so.each k m (λ j. none_yet no_one j (dec_lt j i)))

        pub search_holds : {new : Option ℕ} {t : Bool} → t ≡ in_scope s i → t ≡ true → new ≡ low → Searched s b i new
        search_holds told holds is =
            rw is record { each = all_have; from = lowest_on s (sym told ∙ holds) (subst (λ (n : ℕ). Lowest s n low) next so.from) }

        pub search_fails : {new : Option ℕ} {t : Bool} → t ≡ in_scope s i → t ≡ false → new ≡ Some i → Searched s b i new
        search_fails told fails is = rw is record { each = all_have; from = lowest_here s l (sym told ∙ fails) }

-- what the search says in the end
module _ (s : List ℕ) {lets : List ℕ} {i : ℕ} (end : i ≤ 0) where
  pub search_refused : {low : Option ℕ} {bad : ℕ} → Searched s lets i low → low ≡ Some bad → refusal (scope_rule s ∷ []) ≡ Refused Codes.Scope bad
  unfolding scope_rule
  search_refused {bad = bad} so is = go (subst (Lowest s i) is so.from)
    where
      go : Lowest s i (Some bad) → refusal (scope_rule s ∷ []) ≡ Refused Codes.Scope bad
      go (place inside holds fails) = one_rule_refused (scope_rule s) bad inside (λ k below. holds k (omega arith) below) fails

  pub search_accepted : {low : Option ℕ} → Searched s lets i low → low ≡ None → refusal (scope_rule s ∷ []) ≡ Accepted
  unfolding scope_rule
  search_accepted so is = go (subst (Lowest s i) is so.from)
    where
      go : Lowest s i None → refusal (scope_rule s ∷ []) ≡ Accepted
      go (nowhere holds) = one_rule_accepted (scope_rule s) (λ k below. holds k (omega arith) below)
