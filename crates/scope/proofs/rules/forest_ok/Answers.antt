-- `rules::forest_ok`: one rule after the other, each asked where those before it hold. Assumes nothing.
use mathlib.Core.Path.{◌≡◌}
use mathlib.Core.List.{List, [], ◌∷◌}
use Prim.Native.Nat.{ℕ}
use Rattle.base.specs.Refusals.{Accepted, Answer, refusal}
use Rattle.base.proofs.RefusalLaws.{refuses_on, answers_next}
use Rattle.forest.specs.Forest.{use_rule, depth_rule, nesting_rule, scope_rule, forest_rules}
use Rattle.scope.proofs.rules.forest_ok.Goals as goal

-- past each rule the later ones answer
past-uses : (s : List ℕ) {r x : Answer} → r ≡ refusal (use_rule s ∷ []) → r ≡ Accepted
    → x ≡ refusal (depth_rule s ∷ nesting_rule s ∷ scope_rule s ∷ []) → x ≡ refusal (forest_rules s)
unfolding forest_rules
past-uses s = answers_next (use_rule s ∷ []) (depth_rule s ∷ nesting_rule s ∷ scope_rule s ∷ [])

past-depths : (s : List ℕ) {r x : Answer} → r ≡ refusal (depth_rule s ∷ []) → r ≡ Accepted
    → x ≡ refusal (nesting_rule s ∷ scope_rule s ∷ []) → x ≡ refusal (depth_rule s ∷ nesting_rule s ∷ scope_rule s ∷ [])
past-depths s = answers_next (depth_rule s ∷ []) (nesting_rule s ∷ scope_rule s ∷ [])

pub returns-in_err-uses_once : goal.returns-in_err-uses_once
unfolding forest_rules
returns-in_err-uses_once c =
    let s = c.args.table.now.frame.bytes.now in
    refuses_on (use_rule s ∷ []) (depth_rule s ∷ nesting_rule s ∷ scope_rule s ∷ []) c.uses_once.ensures c.in_err-uses_once.was c.from_residual.ensures

pub returns-in_err-depths_ok : goal.returns-in_err-depths_ok
returns-in_err-depths_ok c =
    let s = c.args.table.now.frame.bytes.now in
    past-uses s c.uses_once.ensures c.in_ok-uses_once.was
    (refuses_on (depth_rule s ∷ []) (nesting_rule s ∷ scope_rule s ∷ []) c.depths_ok.ensures c.in_err-depths_ok.was
    c.from_residual-in_err-depths_ok.ensures)

pub returns-in_err-nestings_ok : goal.returns-in_err-nestings_ok
returns-in_err-nestings_ok c =
    let s = c.args.table.now.frame.bytes.now in
    past-uses s c.uses_once.ensures c.in_ok-uses_once.was
    (past-depths s c.depths_ok.ensures c.in_ok-depths_ok.was
    (refuses_on (nesting_rule s ∷ []) (scope_rule s ∷ []) c.nestings_ok.ensures c.in_err-nestings_ok.was
    c.from_residual-in_err-nestings_ok.ensures))

pub returns : goal.returns
returns c =
    let s = c.args.table.now.frame.bytes.now in
    past-uses s c.uses_once.ensures c.in_ok-uses_once.was
    (past-depths s c.depths_ok.ensures c.in_ok-depths_ok.was
    (answers_next (nesting_rule s ∷ []) (scope_rule s ∷ []) c.nestings_ok.ensures c.in_ok-nestings_ok.was c.scopes_ok.ensures))
