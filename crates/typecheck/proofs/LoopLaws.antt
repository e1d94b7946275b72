-- What a while asks of types, apart from the other statements. Assumes nothing.
use Rattle.std.specs.Prelude.{Option}
use Rattle.std.proofs.Common.{◌≡◌, ap, sym, ◌∙◌, Bool, List, ℕ}
use Rattle.value.specs.declared.ValueType.{ValueType}
use Rattle.value.specs.declared.ValueType.TheVariants.{Imm}
use Rattle.table.specs.declared.Node.{Node}
use Rattle.table.specs.Bytes.{statement}
use Rattle.table.specs.Decode.{context, expr}
use Rattle.typing.specs.Infer.{is_type, infer}
use Rattle.typing.specs.Verdict.{statement_typed}
use Rattle.typing.proofs.JudgedTypes.{asks_types}

module _ (s : List ℕ) (i : ℕ) {r : Node} (is : r ≡ statement s i) where
  asked : r.op ≡ 5 → statement_typed s i ≡ is_type (Imm 1) (infer (context s) (expr s r.a))
  asked = rw is ((asks_types s).loops i)

  pub loop_typed : {x : Option ValueType} {t : Bool} → r.op ≡ 5 → x ≡ infer (context s) (expr s r.a) → t ≡ is_type (Imm 1) x → t ≡ statement_typed s i
  loop_typed op found told = told ∙ ap (is_type (Imm 1)) found ∙ sym (asked op)
