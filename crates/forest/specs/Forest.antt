-- How the records stand together: refusals 8 to 11. Assumes nothing.
use Rattle.std.specs.Prelude.{Bool, true, false, not, ◌&&◌, ◌||◌, ℕ, zero, suc, ◌+◌, max, leb, eqb, length, get_or}
use mathlib.Core.List.{List, [], ◌∷◌, ◌++◌, map, flat_map}
use Rattle.std.specs.Prelude.{if◌then◌else◌}
use Rattle.base.specs.declared.codes.Code.TheVariants as Codes
use Rattle.base.specs.Course.{up_to}
use Rattle.base.specs.Refusals.{Rule}
use Rattle.table.specs.Bytes.{header, variable, expression, statement}
use Rattle.table.specs.Fields.{operands, expression_row, statement_row}
use Rattle.table.specs.Records.{is_let, ends_around}

-- ------------------------------------------------------------------------------------------------
-- Lists

-- how often a number stands in a list
unfoldable pub how_often : ℕ → List ℕ → ℕ
how_often i [] = 0
how_often i (k ∷ ks) = (if eqb i k then 1 else 0) + how_often i ks

-- lists by the numbers below n, one after the other
unfoldable pub over {ℓ} : {X : Type ℓ} → (ℕ → List X) → ℕ → List X
over f zero = []
over f (suc n) = over f n ++ f n

-- whether a test passes below n
unfoldable pub some_below : (ℕ → Bool) → ℕ → Bool
some_below test zero = false
some_below test (suc n) = test n || some_below test n

unfoldable pub largest : List ℕ → ℕ
largest [] = 0
largest (k ∷ ks) = max k (largest ks)

-- ------------------------------------------------------------------------------------------------
-- 8: "Every expression is used exactly once, by an expression or a statement."

unfoldable pub operands_of : List ℕ → ℕ → List ℕ
unfolding operands expression_row expression
operands_of s i = operands (expression_row (expression s i)) (expression s i)

unfoldable pub expressions_of : List ℕ → ℕ → List ℕ
unfolding operands statement_row statement
expressions_of s i = operands (statement_row (statement s i)) (statement s i)

unfoldable pub uses : List ℕ → List ℕ
unfolding over operands_of expressions_of header
uses s = over (operands_of s) (header s).expressions ++ over (expressions_of s) (header s).statements

-- ------------------------------------------------------------------------------------------------
-- 9: "A leaf has depth 1, another node one more than its deepest operand; at most 64."
-- 10: "A top statement has nesting 1; at most 32."

abbrev pub most_depth : ℕ
most_depth = 64

abbrev pub most_nesting : ℕ
most_nesting = 32

unfoldable pub depths : List ℕ → ℕ → List ℕ
unfolding up_to operands_of largest
depths s = up_to (λ i before. suc (largest (map (λ k. get_or before k 0) (operands_of s i))))

unfoldable pub nesting : List ℕ → ℕ → ℕ
unfolding ends_around
nesting s i = suc (length (ends_around s i i))

-- ------------------------------------------------------------------------------------------------
-- 11: "A let variable is read only inside the body of a let of it, and a let never stands inside the body of another let of
-- the same variable (002, TG_CONS: no name enters a context twice)."

-- an expression and all that stand inside it
unfoldable pub insides : List ℕ → ℕ → List (List ℕ)
unfolding up_to operands_of flat_map
insides s = up_to (λ i before. i ∷ flat_map (λ k. get_or before k []) (operands_of s i))

-- whether expression i stands in the body of a let of variable x
unfoldable pub in_body_of : List ℕ → ℕ → ℕ → Bool
unfolding some_below how_often insides expression header
in_body_of s x i =
    let E = (header s).expressions in
    some_below
    (λ j.
    let r = expression s j in
    eqb r.op 8 && (eqb r.a x && leb 1 (how_often i (get_or (insides s E) r.c []))))
    E

unfoldable pub in_scope : List ℕ → ℕ → Bool
unfolding in_body_of variable expression
in_scope s i =
    let r = expression s i in
    if eqb r.op 1 && is_let (variable s r.a) then in_body_of s r.a i else (if eqb r.op 8 then not (in_body_of s r.a i) else true)

unfoldable pub use_rule : List ℕ → Rule
unfolding how_often uses header
use_rule s = record { code = Codes.Uses; places = (header s).expressions; holds = λ i. eqb (how_often i (uses s)) 1 }

unfoldable pub depth_rule : List ℕ → Rule
unfolding depths header
depth_rule s =
    record { code = Codes.Depth; places = (header s).expressions; holds = λ i. leb (get_or (depths s (header s).expressions) i 0) most_depth }

unfoldable pub nesting_rule : List ℕ → Rule
unfolding nesting header
nesting_rule s = record { code = Codes.Nesting; places = (header s).statements; holds = λ i. leb (nesting s i) most_nesting }

unfoldable pub scope_rule : List ℕ → Rule
unfolding in_scope header
scope_rule s = record { code = Codes.Scope; places = (header s).expressions; holds = in_scope s }

unfoldable pub forest_rules : List ℕ → List Rule
unfolding use_rule depth_rule nesting_rule scope_rule
forest_rules s = use_rule s ∷ depth_rule s ∷ nesting_rule s ∷ scope_rule s ∷ []
