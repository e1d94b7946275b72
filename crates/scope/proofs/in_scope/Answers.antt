-- `in_scope`: the rule by the record's op. Assumes nothing.
use mathlib.Core.Path.{◌≡◌, ap, sym, ◌∙◌}
use mathlib.Core.Bool.{not}
use native.Mathlib.Omega.{arith}
use borrow.Author.Tests.{ne_eqb}
use Rattle.table.specs.declared.Variable.{Variable}
use Rattle.table.specs.Bytes.{variable}
use Rattle.scope.proofs.NearestLaws.{scope_let, scope_other, scope_state, scope_var, var_counted}
use Rattle.scope.proofs.in_scope.Goals as goal

pub returns-in-8 : goal.returns-in-8
returns-in-8 c = ap not c.in_body.ensures ∙ sym (scope_let c.args.table.now.frame.bytes.now c.args.i c.requires.r_value c.in-8.is)

pub variable-requires : goal.variable-requires
variable-requires c =
    var_counted c.args.table.now.frame.framed c.args.table.now.records c.requires.i_lt_expressions c.requires.r_value c.in-1.is

pub returns-then-variable-ne-ROLE_LET : goal.returns-then-variable-ne-ROLE_LET
returns-then-variable-ne-ROLE_LET c =
    let role = ap (λ (v : Variable). v.role) c.variable.ensures in
    let state : (variable c.args.table.now.frame.bytes.now c.args.r.a).role ≡ 1 → ⊥ = λ e. omega arith in
    ap not (ne_eqb c.variable.result.role 1 (λ e. omega arith)) ∙ sym (scope_state c.args.table.now.frame.bytes.now c.args.i c.requires.r_value c.in-1.is state)

pub returns-else-variable-ne-ROLE_LET : goal.returns-else-variable-ne-ROLE_LET
returns-else-variable-ne-ROLE_LET c =
    let role = ap (λ (v : Variable). v.role) c.variable.ensures in
    let lets : (variable c.args.table.now.frame.bytes.now c.args.r.a).role ≡ 1 = omega arith in
    c.in_body-else-variable-ne-ROLE_LET.ensures ∙ sym (scope_var c.args.table.now.frame.bytes.now c.args.i c.requires.r_value c.in-1.is lets)

pub returns-in_default : goal.returns-in_default
returns-in_default c =
    let no-let : c.args.r.op ≡ 8 → ⊥ = λ e. omega arith in
    let no-var : c.args.r.op ≡ 1 → ⊥ = λ e. omega arith in
    sym (scope_other c.args.table.now.frame.bytes.now c.args.i c.requires.r_value no-let no-var)
