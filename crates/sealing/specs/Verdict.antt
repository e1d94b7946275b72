-- The seal verdict: refusals 14 and 15. Assumes nothing.
use Rattle.std.specs.Prelude.{Bool, true, false, List, [], ◌∷◌, ◌++◌, ℕ}
use Rattle.base.specs.declared.codes.Code.TheVariants as Codes
use Rattle.base.specs.Numbered.{numbered}
use Rattle.base.specs.Refusals.{Answer, Rule, refusal}
use Rattle.table.specs.declared.Node.{Node}
use Rattle.table.specs.Bytes.{header, statement}
use Rattle.table.specs.Decode.{Context, context, expr}
use Rattle.typing.specs.Verdict.{check_rules}
use Rattle.sealing.specs.Labels.{Label, may_go, label_of, has_label}

-- 14 at an expression that leaks. The lowest that does is the lowest that breaks a rule itself: its operands are lower and do not leak.
unfoldable pub expression_seal_rule : List ℕ → Rule
unfolding label_of has_label context expr header
expression_seal_rule s = record { code = Codes.ExpressionSeal; places = (header s).expressions; holds = λ i. has_label (label_of (context s) (expr s i)) }

-- 15: "a sealed expression moved to an open variable; a sealed jump or guard" are refused
unfoldable pub statement_seals : List (ℕ × (Context → Node → (ℕ → Label) → Bool))
unfolding may_go
statement_seals =
    (1, λ Γ r label. may_go (Γ.sealed r.a) (label r.b))
    ∷ (2, λ Γ r label. may_go false (label r.a))
    ∷ (5, λ Γ r label. may_go false (label r.a))
    ∷ (6, λ Γ r label. may_go false (label r.a))
    ∷ []

unfoldable pub statement_clean : List ℕ → ℕ → Bool
unfolding statement_seals label_of context expr statement
statement_clean s i =
    let r = statement s i in
    numbered (λ Γ r label. true) statement_seals r.op (context s) r (λ k. label_of (context s) (expr s k))

unfoldable pub statement_seal_rule : List ℕ → Rule
unfolding statement_clean header
statement_seal_rule s = record { code = Codes.StatementSeal; places = (header s).statements; holds = statement_clean s }

unfoldable pub seal_rules : List ℕ → List Rule
unfolding expression_seal_rule statement_seal_rule
seal_rules s = expression_seal_rule s ∷ statement_seal_rule s ∷ []

-- "seal check 1 to 15", in their order
unfoldable pub seal_check : List ℕ → Answer
unfolding refusal check_rules seal_rules
seal_check s = refusal (check_rules s ++ seal_rules s)
