-- The type rules hold at every record exactly where every expression has a type and the program is ok. Assumes nothing.
use mathlib.Core.Path.{◌≡◌}
use mathlib.Core.Bool.{true}
use mathlib.Core.List.{List}
use mathlib.Core.Logic.{◌↔◌}
use Prim.Native.Nat.{ℕ, ◌+◌, ◌≤◌, ◌<◌}
use native.Mathlib.Omega.{arith}
use Rattle.base.proofs.RangeLaws.{Each, each_none, each_head, each_part, each_cons, each_join}
use Rattle.table.specs.Bytes.{header}
use Rattle.table.specs.Decode.{context, expr, program}
use Rattle.table.specs.Syntax.{Block}
use Rattle.table.proofs.View as R
use Rattle.table.proofs.View.{Reads}
use Rattle.typing.specs.Typing as T
use Rattle.typing.specs.Typing.{Ok, TypingHolds}
use Rattle.typing.specs.Infer.{has_type, infer}
use Rattle.typing.specs.Verdict.{statement_types, statement_typed}
use Rattle.typing.proofs.TypingLaws.{this_type_iff, some_type_iff}

-- the l statements from statement n on keep their rules
abbrev Typed : List ℕ → ℕ → ℕ → Type 0
Typed s = Each (λ i. statement_typed s i ≡ true)

abbrev BlockOk : List ℕ → Block → Type 0
BlockOk s = Ok (context s) (header s).width

module _ {s : List ℕ} where
  typed_ok : {n l : ℕ} {k : Block} → Reads s n l k → Typed s n l → BlockOk s k
  unfolding statement_typed statement_types
  typed_ok R.r_end p = T.T-END
  typed_ok (R.r_move o _ _ _ k) p = T.T-MOVE ((this_type_iff _).0 (rw o at (each_head p))) (typed_ok k (each_part p (omega arith)))
  typed_ok (R.r_jmp o _ k) p = T.T-JMP ((this_type_iff _).0 (rw o at (each_head p))) (typed_ok k (each_part p (omega arith)))
  typed_ok (R.r_cpuexn o k) p = T.T-CPUEXN (typed_ok k (each_part p (omega arith)))
  typed_ok (R.r_special o k) p = T.T-SPECIAL (typed_ok k (each_part p (omega arith)))
  typed_ok (R.r_while o _ _ f b k) p =
      T.T-WHILE ((this_type_iff _).0 (rw o at (each_head p))) (typed_ok b (each_part p (omega arith))) (typed_ok k (each_part p (omega arith)))
  typed_ok (R.r_if o _ _ f b c k) p =
      T.T-IF ((this_type_iff _).0 (rw o at (each_head p))) (typed_ok b (each_part p (omega arith))) (typed_ok c (each_part p (omega arith)))
      (typed_ok k (each_part p (omega arith)))

  ok_typed : {n l : ℕ} {k : Block} → Reads s n l k → BlockOk s k → Typed s n l
  unfolding statement_typed statement_types
  ok_typed R.r_end T.T-END = each_none
  ok_typed (R.r_move o _ _ _ k) (T.T-MOVE d q) = each_cons (rw o ((this_type_iff _).1 d)) (ok_typed k q)
  ok_typed (R.r_jmp o _ k) (T.T-JMP d q) = each_cons (rw o ((this_type_iff _).1 d)) (ok_typed k q)
  ok_typed (R.r_cpuexn o k) (T.T-CPUEXN q) = each_cons (rw o) (ok_typed k q)
  ok_typed (R.r_special o k) (T.T-SPECIAL q) = each_cons (rw o) (ok_typed k q)
  ok_typed (R.r_while o _ _ f b k) (T.T-WHILE d p q) =
      each_cons (rw o ((this_type_iff _).1 d)) (each_part (each_join (ok_typed b p) (ok_typed k q)) (omega arith))
  ok_typed (R.r_if o _ _ f b c k) (T.T-IF d p p₁ q) =
      each_cons (rw o ((this_type_iff _).1 d)) (each_part (each_join (each_join (ok_typed b p) (ok_typed c p₁)) (ok_typed k q)) (omega arith))

  pub statements_ok_iff : {n l : ℕ} {k : Block} → Reads s n l k
      → ((i : ℕ) → n ≤ i → i < n + l → statement_typed s i ≡ true) ↔ Ok (context s) (header s).width k
  statements_ok_iff r = (λ h. typed_ok r (record { at = h }), λ k. (ok_typed r k).at)

-- ------------------------------------------------------------------------------------------------
-- The whole

-- rule 12 at every expression and rule 13 at every statement
pub type_rules-iff : {s : List ℕ} → Reads s 0 (header s).statements (program s)
    → (((i : ℕ) → i < (header s).expressions → has_type (infer (context s) (expr s i)) ≡ true)
    × ((i : ℕ) → i < (header s).statements → statement_typed s i ≡ true))
    ↔ TypingHolds s
type_rules-iff {s} r = (
  λ h. record {
    expressions = λ i k. (some_type_iff (expr s i)).0 (h.0 i k);
    program = (statements_ok_iff r).0 (λ i _ k. h.1 i (omega arith));
  },
  λ t. (λ i k. (some_type_iff (expr s i)).1 (t.expressions i k), λ i k. (statements_ok_iff r).1 t.program i (omega arith) (omega arith)),
)
