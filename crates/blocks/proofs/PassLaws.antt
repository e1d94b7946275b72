-- One pass over the statements that keeps their owners. Assumes nothing.
use mathlib.Core.Path.{◌≡◌, sym, ◌∙◌, ap}
use mathlib.Core.List.{List, [], ◌∷◌}
use mathlib.Core.Bool.{Bool, false}
use Prim.Native.Nat.{ℕ, ◌≤◌, ◌<◌}
use native.Mathlib.Omega.{arith}
use Rattle.base.specs.declared.codes.Code.{Code}
use Rattle.base.specs.declared.codes.Code.TheVariants as Codes
use Rattle.base.specs.Refusals.{HoldsBelow, Accepted, Refused, refusal}
use Rattle.base.proofs.RefusalLaws.{one_rule_refused, one_rule_accepted}
use Rattle.table.specs.declared.Header.{Header}
use Rattle.table.specs.Records.{Framed, statement_rule}
use Rattle.blocks.specs.Owners.{Known}
use Rattle.blocks.proofs.StatementLaws.{rule_code, rule_places}

-- what is known when the first i statements are passed
pub record Passed (s owners : List ℕ) (i : ℕ) : Type 0 where
  pub known : Known s i owners
  pub hold : HoldsBelow (statement_rule s).holds i

-- the rule has a place for each statement
places : {s : List ℕ} {h : Header} → Framed s h → (statement_rule s).places ≡ h.statements
places {s} f = rule_places s ∙ sym (ap (λ (h : Header). h.statements) f.is)

pub passed_refused :
    {s owners : List ℕ} {h : Header} {i : ℕ} {t : Bool} → Framed s h → Passed s owners i → i < h.statements
    → t ≡ (statement_rule s).holds i → t ≡ false → Refused Codes.Statement i ≡ refusal (statement_rule s ∷ [])
passed_refused {s} {i = i} framed so inside told fails =
    sym
    (one_rule_refused (statement_rule s) i (omega (arith, places framed)) so.hold (sym told ∙ fails)
    ∙ ap (λ (code : Code). Refused code i) (rule_code s))

pub passed_accepted :
    {s owners : List ℕ} {h : Header} {i : ℕ} → Framed s h → Passed s owners i → h.statements ≤ i → Accepted ≡ refusal (statement_rule s ∷ [])
passed_accepted {s} framed so all = sym (one_rule_accepted (statement_rule s) (λ k l. so.hold k (omega (arith, places framed))))
