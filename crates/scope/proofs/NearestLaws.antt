-- What the nearest lets say: where a climb goes on, and the rule by an expression's record. Assumes nothing.
use mathlib.Core.Path.{◌≡◌, ap, ap₂, sym, subst, ◌∙◌}
use mathlib.Core.List.{List}
use mathlib.Core.Bool.{Bool, true, false, not, ◌&&◌, ◌||◌}
use Prim.Native.Nat.{ℕ, ◌-◌, ◌≤◌, ◌<◌}
use native.Mathlib.Omega.{arith}
use borrow.Author.Tests.{eq-eqb, ne_eqb}
use lib.Dec.{eqb}
use lib.ListN.{get_or}
use Rattle.std.specs.Prelude.{if◌then◌else◌}
use Rattle.base.specs.Numbered.{numbered}
use Rattle.table.specs.declared.Header.{Header}
use Rattle.table.specs.declared.Node.{Node}
use Rattle.table.specs.Bytes.{header, variable, expression}
use Rattle.table.specs.Fields.{no_row, expression_row, expression_rows}
use Rattle.table.specs.Records.{field_ok, Framed, RecordsHold}
use Rattle.table.proofs.FieldLaws.{fields_hold, variable_field}
use Rattle.forest.specs.Forest.{in_body_of, in_scope}
use Rattle.scope.specs.Scoping.{Leads, Nearest, NearestFrom}

-- ------------------------------------------------------------------------------------------------
-- Climbing

module _
    {s : List ℕ} {h : Header} (framed : Framed s h) {lets : List ℕ} {i k : ℕ} (near : NearestFrom s lets i) (from : i ≤ k) (inside : k < h.expressions)
  where
    nearest : Nearest s k (get_or lets k 0)
    nearest = near.each k from (subst (λ (h : Header). k < h.expressions) framed.is inside)

    pub in_none : (x : ℕ) → get_or lets k 0 ≡ 0 → in_body_of s x k ≡ false
    in_none x e = nearest.outside e x

    -- the let that a number which is not 0 stands for
    pub leads : (get_or lets k 0 ≡ 0 → ⊥) → (get_or lets k 0 - 1 < h.expressions) × Leads s k (get_or lets k 0 - 1)
    leads some =
        let on = nearest.inside (get_or lets k 0 - 1) (omega arith) in
        (subst (λ (h : Header). get_or lets k 0 - 1 < h.expressions) (sym framed.is) on.counted, on)

-- a let of the variable asked for, and one of another
pub leads_found : {s : List ℕ} (x : ℕ) {k m : ℕ} → Leads s k m → (expression s m).a ≡ x → in_body_of s x k ≡ true
leads_found {s} x {k} {m} l e = l.each x ∙ ap (λ (t : Bool). t || in_body_of s x m) (eq-eqb _ _ e)

pub leads_on : {s : List ℕ} (x : ℕ) {k m : ℕ} → Leads s k m → ((expression s m).a ≡ x → ⊥) → in_body_of s x k ≡ in_body_of s x m
leads_on {s} x {k} {m} l n = l.each x ∙ ap (λ (t : Bool). t || in_body_of s x m) (ne_eqb _ _ n)

-- ------------------------------------------------------------------------------------------------
-- The rule by a record

-- the rule, by whether the expression is a var, of a let variable, or a let, and by whether it stands in the body of a let of its variable
abbrev ruled : Bool → Bool → Bool → Bool → Bool
ruled var role lets inside = if var && role then inside else (if lets then not inside else true)

module _ (s : List ℕ) (i : ℕ) {r : Node} (is : r ≡ expression s i) where
  abbrev inside : Bool
  inside = in_body_of s r.a i

  abbrev role : Bool
  role = eqb (variable s r.a).role 1

  by_record : in_scope s i ≡ ruled (eqb r.op 1) role (eqb r.op 8) inside
  unfolding in_scope
  by_record =
      ap (λ (r : Node). ruled (eqb r.op 1) (eqb (variable s r.a).role 1) (eqb r.op 8) (in_body_of s r.a i)) (sym is)

  pub scope_let : r.op ≡ 8 → in_scope s i ≡ not inside
  scope_let op = by_record ∙ ap₂ (λ (v l : Bool). ruled v role l inside) (ne_eqb r.op 1 (λ e. omega arith)) (eq-eqb _ _ op)

  pub scope_other : (r.op ≡ 8 → ⊥) → (r.op ≡ 1 → ⊥) → in_scope s i ≡ true
  scope_other no-let no-var = by_record ∙ ap₂ (λ (v l : Bool). ruled v role l inside) (ne_eqb _ _ no-var) (ne_eqb _ _ no-let)

  pub scope_state : r.op ≡ 1 → ((variable s r.a).role ≡ 1 → ⊥) → in_scope s i ≡ true
  scope_state op state =
      by_record ∙ ap₂ (λ (v w : Bool). ruled v w (eqb r.op 8) inside) (eq-eqb _ _ op) (ne_eqb _ _ state)
      ∙ ap (λ (l : Bool). if l then not inside else true) (ne_eqb r.op 8 (λ e. omega arith))

  pub scope_var : r.op ≡ 1 → (variable s r.a).role ≡ 1 → in_scope s i ≡ inside
  scope_var op lets = by_record ∙ ap₂ (λ (v w : Bool). ruled v w (eqb r.op 8) inside) (eq-eqb _ _ op) (eq-eqb _ _ lets)

-- a var names a variable
pub var_counted : {s : List ℕ} {h : Header} → Framed s h → RecordsHold s → {i : ℕ} {r : Node} → i < h.expressions → r ≡ expression s i
    → r.op ≡ 1 → r.a < h.variables
unfolding expression_row expression_rows
var_counted {s} {h} framed hold {i} {r} l is op =
    let e = expression s i in
    let op' : e.op ≡ 1 = ap (λ (r : Node). r.op) (sym is) ∙ op in
    let fields = fields_hold s i (expression_row e) e (hold.expressions i (subst (λ (h : Header). i < h.expressions) framed.is l)) in
    let named = variable_field s i e.a
    (subst (λ (n : ℕ). field_ok s i (numbered no_row expression_rows n).a e.a ≡ true) op' fields.a)
    in
    subst (λ (h : Header). r.a < h.variables) (sym framed.is) (subst (λ (r : Node). r.a < (header s).variables) (sym is) named)
