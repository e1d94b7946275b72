-- In whose body an expression stands, by what its one user is. Assumes nothing.
use mathlib.Core.Path.{◌≡◌, refl, ap, sym, subst}
use mathlib.Core.Bool.{Bool, true, false, ◌||◌}
use mathlib.Core.List.{List, [], ◌∷◌}
use Prim.Native.Nat.{ℕ, zero, suc, ◌<◌}
use native.Mathlib.Nat.{not-suc-le-zero}
use native.Mathlib.Decide.{dec_lt}
use native.Mathlib.Omega.{arith}
use lib.Dec.{eqb}
use borrow.Author.Tests.{eqb-true, eq-eqb, leb-true, le-leb}
use Rattle.base.specs.Numbered.{numbered}
use Rattle.base.specs.Refusals.{Accepted, refusal}
use Rattle.base.proofs.BoolLaws.{not_both, and_left, and_right, and_both, or_cases}
use Rattle.table.specs.declared.Node.{Node}
use Rattle.table.specs.Bytes.{header, expression}
use Rattle.table.specs.Fields.{no_row, operands, expression_row, expression_rows}
use Rattle.table.specs.Records.{RecordsHold}
use Rattle.forest.specs.Forest.{some_below, operands_of, in_body_of, use_rule}
use Rattle.forest.specs.Counting.{Stands}
use Rattle.forest.proofs.StandsLaws.{stands_first, stands_later}
use Rattle.scope.proofs.UseLaws.{one_user}
use Rattle.scope.proofs.InsideLaws.{inside_of, inside_itself, operand_below, inside_down, inside_up}

some-below : (test : ℕ → Bool) (n : ℕ) {j : ℕ} → j < n → test j ≡ true → some_below test n ≡ true
unfolding some_below
some-below test zero l h = absurd (not-suc-le-zero l)
some-below test (suc n) {j} l h = go (dec_lt j n) (test n) refl (some-below test n)
  where
    go : Dec (j < n) → (t : Bool) → test n ≡ t → (j < n → test j ≡ true → some_below test n ≡ true) → (t || some_below test n) ≡ true
    go d true e ih = refl
    go (yes d) false e ih = ih d h
    go (no d) false e ih = let q : j ≡ n = omega arith in absurd (not_both (subst (λ (j : ℕ). test j ≡ true) q h) e)

some_below-at {ℓ} : {C : Type ℓ} (test : ℕ → Bool) (n : ℕ) → some_below test n ≡ true → ((j : ℕ) → j < n → test j ≡ true → C) → C
unfolding some_below
some_below-at test zero h found = absurd (not_both h refl)
some_below-at test (suc n) h found =
    or_cases (test n) (some_below test n) h (λ e. found n (omega arith) e)
    (λ e. some_below-at test n e (λ j l. found j (omega arith)))

-- tests that pass together are equal
same_test : (a b : Bool) → (a ≡ true → b ≡ true) → (b ≡ true → a ≡ true) → a ≡ b
same_test true b f g = sym (f refl)
same_test false true f g = g refl
same_test false false f g = refl

or_left : {a : Bool} (b : Bool) → a ≡ true → (a || b) ≡ true
or_left b e = ap (λ (t : Bool). t || b) e

or_right : (a : Bool) {b : Bool} → b ≡ true → (a || b) ≡ true
or_right true e = refl
or_right false e = e

-- a let has its body among its operands
pub body_stands : (r : Node) → r.op ≡ 8 → Stands r.c (operands (expression_row r) r)
unfolding operands expression_row expression_rows
body_stands r e =
    let named : operands (expression_row r) r ≡ r.b ∷ r.c ∷ [] = ap (λ (n : ℕ). operands (numbered no_row expression_rows n) r) e in
    rw named (stands_later _ (stands_first _ []))

module _ (s : List ℕ) (hold : RecordsHold s) where
  -- expression k stands in the body of let j of variable x
  record InBody (x k j : ℕ) : Type 0 where
    counted : j < (header s).expressions
    op : (expression s j).op ≡ 8
    variable : (expression s j).a ≡ x
    inside : Stands k (inside_of s (expression s j).c)

  in_body : {x k j : ℕ} → InBody x k j → in_body_of s x k ≡ true
  unfolding in_body_of
  in_body {x} {k} {j} h =
      some-below _ (header s).expressions h.counted
      (and_both (eq-eqb _ _ h.op) (and_both (eq-eqb _ _ h.variable) (le-leb _ _ h.inside.counts)))

  in-body-of {ℓ} : {C : Type ℓ} (x k : ℕ) → in_body_of s x k ≡ true → ((j : ℕ) → InBody x k j → C) → C
  unfolding in_body_of
  in-body-of x k h found =
      some_below-at _ (header s).expressions h
      (λ j l t.
      let t' = and_right (eqb (expression s j).op 8) _ t in
      found j
      (record {
        counted = l;
        op = eqb-true _ _ (and_left _ _ t);
        variable = eqb-true _ _ (and_left _ _ t');
        inside = record { counts = leb-true _ _ (and_right (eqb (expression s j).a x) _ t') };
      }))

  body_operand : (j : ℕ) → (expression s j).op ≡ 8 → Stands (expression s j).c (operands_of s j)
  unfolding operands_of
  body_operand j = body_stands (expression s j)

  body_counted : {x k j : ℕ} → InBody x k j → (expression s j).c < (header s).expressions
  body_counted {j = j} h = let l = h.counted in omega (arith, operand_below s hold l (body_operand j h.op))

  -- an expression that nothing uses
  pub no_user : (x k : ℕ) → ((j : ℕ) → j < (header s).expressions → Stands k (operands_of s j) → ⊥) → in_body_of s x k ≡ false
  no_user x k alone =
      same_test _ _
      (λ h.
      in-body-of x k h
      (λ m b.
      absurd
      (inside_up s hold (body_counted b) b.inside
      (λ e. alone m b.counted (subst (λ (k : ℕ). Stands k (operands_of s m)) (sym e) (body_operand m b.op)))
      (λ j l p q. alone j l p))))
      (λ h. absurd (not_both h refl))

  module _ (accepted : refusal (use_rule s ∷ []) ≡ Accepted) {j k : ℕ} (l : j < (header s).expressions) (p : Stands k (operands_of s j)) where
    down : {x m : ℕ} → InBody x j m → InBody x k m
    down {x} {m} b =
        record {
          counted = b.counted;
          op = b.op;
          variable = b.variable;
          inside = inside_down s hold (body_counted b) b.inside p;
        }

    same : {i : ℕ} → i < (header s).expressions → Stands k (operands_of s i) → i ≡ j
    same n q = one_user s accepted (omega (arith, operand_below s hold l p)) n l q p

    -- the let has this body, or its user stands in the let's body too
    up {ℓ} : {C : Type ℓ} {x m : ℕ} → InBody x k m → (m ≡ j → k ≡ (expression s m).c → C) → (InBody x j m → C) → C
    up {x = x} {m} b here there =
        inside_up s hold (body_counted b) b.inside
        (λ e. here (same b.counted (subst (λ (k : ℕ). Stands k (operands_of s m)) (sym e) (body_operand m b.op))) e)
        (λ i n q r.
        there
        (record {
          counted = b.counted;
          op = b.op;
          variable = b.variable;
          inside = subst (λ (i : ℕ). Stands i (inside_of s (expression s m).c)) (same n q) r;
        }))

    -- the body of a let stands in its body, and in the bodies that the let stands in
    pub body_step : (x : ℕ) → (expression s j).op ≡ 8 → (expression s j).c ≡ k → in_body_of s x k ≡ (eqb (expression s j).a x || in_body_of s x j)
    body_step x op is =
        same_test _ _
        (λ h.
        in-body-of x k h
        (λ m b.
        up b
        (λ e f. or_left _ (eq-eqb _ _ (subst (λ (j : ℕ). (expression s j).a ≡ x) e b.variable)))
        (λ b. or_right (eqb (expression s j).a x) (in_body b))))
        (λ h.
        or_cases (eqb (expression s j).a x) _ h
        (λ e.
        in_body
        (record {
          counted = l;
          op = op;
          variable = eqb-true _ _ e;
          inside = rw is (inside_itself s (omega (arith, operand_below s hold l p)));
        }))
        (λ h. in-body-of x j h (λ m b. in_body (down b))))

    -- any other operand stands in the bodies that its user stands in
    pub other_step : (x : ℕ) → ((expression s j).op ≡ 8 → (expression s j).c ≡ k → ⊥) → in_body_of s x k ≡ in_body_of s x j
    other_step x not-IsBody =
        same_test _ _
        (λ h.
        in-body-of x k h
        (λ m b.
        up b
        (λ e f.
        absurd
        (not-IsBody (subst (λ (j : ℕ). (expression s j).op ≡ 8) e b.op) (subst (λ (j : ℕ). (expression s j).c ≡ k) e (sym f))))
        in_body))
        (λ h. in-body-of x j h (λ m b. in_body (down b)))
