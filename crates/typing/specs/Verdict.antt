-- The type verdict: refusals 12 and 13. Assumes nothing.
use Rattle.std.specs.Prelude.{Bool, true, List, [], ◌∷◌, ◌++◌, ℕ, Option}
use Rattle.base.specs.declared.codes.Code.TheVariants as Codes
use Rattle.base.specs.Numbered.{numbered}
use Rattle.base.specs.Refusals.{Answer, Rule, refusal}
use Rattle.value.specs.declared.ValueType.{ValueType}
use Rattle.value.specs.declared.ValueType.TheVariants.{Imm}
use Rattle.table.specs.declared.Node.{Node}
use Rattle.table.specs.Bytes.{header, statement}
use Rattle.table.specs.Records.{header_rules, record_rules}
use Rattle.table.specs.Decode.{Context, context, expr}
use Rattle.forest.specs.Forest.{forest_rules}
use Rattle.typing.specs.Infer.{is_type, has_type, infer}

-- 12 at an expression that has no type, 13 at a statement that breaks its rule

-- what a statement asks of the types of expressions
unfoldable pub statement_types : List (ℕ × (Context → ℕ → Node → (ℕ → Option ValueType) → Bool))
unfolding is_type
statement_types =
    (1, λ Γ A r type. is_type (Γ.type r.a) (type r.b))
    ∷ (2, λ Γ A r type. is_type (Imm A) (type r.a))
    ∷ (5, λ Γ A r type. is_type (Imm 1) (type r.a))
    ∷ (6, λ Γ A r type. is_type (Imm 1) (type r.a))
    ∷ []

unfoldable pub statement_typed : List ℕ → ℕ → Bool
unfolding statement_types infer context expr statement header
statement_typed s i =
    let r = statement s i in
    numbered (λ Γ A r type. true) statement_types r.op (context s) (header s).width r (λ k. infer (context s) (expr s k))

unfoldable pub expression_type_rule : List ℕ → Rule
unfolding infer has_type context expr header
expression_type_rule s = record { code = Codes.ExpressionType; places = (header s).expressions; holds = λ i. has_type (infer (context s) (expr s i)) }

unfoldable pub statement_type_rule : List ℕ → Rule
unfolding statement_typed header
statement_type_rule s = record { code = Codes.StatementType; places = (header s).statements; holds = statement_typed s }

unfoldable pub type_rules : List ℕ → List Rule
unfolding expression_type_rule statement_type_rule
type_rules s = expression_type_rule s ∷ statement_type_rule s ∷ []

-- refusals 1 to 13, in their order
unfoldable pub check_rules : List ℕ → List Rule
unfolding header_rules record_rules forest_rules type_rules
check_rules s = header_rules s ++ (record_rules s ++ (forest_rules s ++ type_rules s))

unfoldable pub check : List ℕ → Answer
unfolding refusal check_rules
check s = refusal (check_rules s)
