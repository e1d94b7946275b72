-- What refusals 1 to 4 leave. Assumes nothing.
use mathlib.Core.Path.{◌≡◌, refl}
use mathlib.Core.List.{List}
use Prim.Native.Nat.{ℕ}
use native.Mathlib.Omega.{arith}
use lib.Dec.{leb, eqb}
use lib.ListN.{length}
use borrow.Author.Tests.{leb-true, eqb-true}
use Rattle.base.specs.Refusals.{Accepted, AllHold, no_rule, one_more, refusal}
use Rattle.base.proofs.BoolLaws.{and_left, and_right}
use Rattle.base.proofs.RefusalLaws.{accepted_iff}
use Rattle.table.specs.Bytes.{header, expressions_from, statements_from, end}
use Rattle.table.specs.Records.{header_rules, Framed, most_variables, most_expressions}
use Rattle.table.proofs.FieldLaws.{within_is}

pub framed : (s : List ℕ) → refusal (header_rules s) ≡ Accepted → Framed s (header s)
unfolding header_rules
framed s e = go ((accepted_iff (header_rules s)).0 e)
  where
    go : AllHold (header_rules s) → Framed s (header s)
    go (one_more long (one_more format (one_more counts (one_more sections no_rule)))) =
        let h = header s in
        let c₀ = counts 0 (omega arith) in
        let c₁ = and_right (leb h.variables most_variables) _ c₀ in
        let c₂ = within_is 1 1024 h.statements (and_right (leb h.expressions most_expressions) _ c₁) in
        let s₁ = and_right (eqb h.variablesAt 32) _ (sections 0 (omega arith)) in
        let s₂ = and_right (eqb h.expressionsAt (expressions_from h)) _ s₁ in
        let s₃ = and_right (eqb h.statementsAt (statements_from h)) _ s₂ in
        record {
          is = refl;
          whole = eqb-true (length s) (end h) (and_right (eqb h.total (end h)) _ s₃);
          variables = leb-true h.variables most_variables (and_left _ _ c₀);
          expressions = leb-true h.expressions most_expressions (and_left _ _ c₁);
          statements = c₂.1;
          some = c₂.0;
        }
