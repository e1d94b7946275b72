-- `turns::bodies_of`: by the op. Assumes nothing.
use mathlib.Core.Path.{◌≡◌, sym, ap, ap₂, ◌∙◌}
use mathlib.Core.Bool.{Bool, ◌||◌}
use Prim.Native.Nat.{ℕ, ◌+◌}
use native.Mathlib.Omega.{arith}
use lib.Dec.{eqb}
use borrow.Author.Tests.{ne_eqb}
use Rattle.std.specs.Prelude.{if◌then◌else◌}
use Rattle.table.specs.declared.Node.{Node}
use Rattle.execute.specs.Extent.{bodies_of}
use Rattle.execute.proofs.turns.bodies_of.Goals as goal

-- by an op
by : Node → ℕ → ℕ
by r op = (if eqb op 5 || eqb op 6 then r.b else 0) + (if eqb op 6 then r.c else 0)

pub overflow_add-result : goal.overflow_add-result
unfolding by
overflow_add-result c =
    let few = c.requires in
    let all : bodies_of c.args.r ≡ c.args.r.b + c.args.r.c = ap (by c.args.r) c.in-6.is in
    omega arith

pub returns-in-5 : goal.returns-in-5
unfolding by
returns-in-5 c =
    let r = c.args.r in
    let one : by r 5 ≡ r.b = omega arith in
    sym (ap (by r) c.in-5.is ∙ one)

pub returns-in-6 : goal.returns-in-6
unfolding by
returns-in-6 c = sym (ap (by c.args.r) c.in-6.is)

pub returns-in_default : goal.returns-in_default
returns-in_default c =
    let r = c.args.r in
    sym
    (ap₂ (λ (u v : Bool). (if u || v then r.b else 0) + (if v then r.c else 0)) (ne_eqb r.op 5 c.in_default.in_default-own.rest.0.1) (ne_eqb r.op 6 c.in_default.in_default-own.rest.1))
