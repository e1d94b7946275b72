-- An op makes no type of operands one of which has none. Assumes nothing.
use Rattle.std.specs.Prelude.{Option, Some, None}
use mathlib.Core.Path.{◌≡◌, refl}
use mathlib.Core.Bool.{Bool, true, false, ◌&&◌}
use Prim.Native.Nat.{ℕ}
use Rattle.base.proofs.NumberedLaws.{end, ◌then◌, numbered_all}
use Rattle.value.specs.declared.ValueType.TheVariants.{Imm, Mem}
use Rattle.value.specs.declared.ValueType.{ValueType}
use Rattle.table.specs.declared.Node.{Node}
use Rattle.table.specs.Decode.{Context}
use Rattle.typing.specs.Infer.{immediate, memory, when, is_type, both_types}
use Rattle.typing.specs.Infer.{load_type, store_type, binary_type, unary_type, cast_type, let_type, ite_type, extract_type, concat_type}
use Rattle.typing.specs.ByOp.{ones, twos, threes, one_type, two_type, three_type}

-- ------------------------------------------------------------------------------------------------
-- The pieces of the ops' rules

immediate_none : (o : Option ValueType) (f : ℕ → Option ValueType) → ((w : ℕ) → f w ≡ None) → immediate o f ≡ None
unfolding immediate
immediate_none None f h = refl
immediate_none (Some (Imm w)) f h = h w
immediate_none (Some (Mem w)) f h = refl

memory_none : (o : Option ValueType) (f : ℕ → Option ValueType) → ((w : ℕ) → f w ≡ None) → memory o f ≡ None
unfolding memory
memory_none None f h = refl
memory_none (Some (Imm w)) f h = refl
memory_none (Some (Mem w)) f h = h w

when_none : (b : Bool) → when b None ≡ None
unfolding when
when_none true = refl
when_none false = refl

when_never : (b : Bool) (o : Option ValueType) → when (b && false) o ≡ None
unfolding when
when_never true o = refl
when_never false o = refl

both_none : (o : Option ValueType) → both_types o None ≡ None
unfolding both_types
both_none None = refl
both_none (Some t) = refl

-- ------------------------------------------------------------------------------------------------
-- By op

module _ (r : Node) where
  pub one_none : one_type r None ≡ None
  unfolding one_type ones unary_type cast_type extract_type
  one_none = numbered_all (λ k f. f r None ≡ None) _ (λ k. refl) ones (refl then refl then refl then end) r.op

  pub two_first : (Γ : Context) (f : Option ValueType) → two_type Γ r None f ≡ None
  unfolding two_type twos load_type binary_type let_type concat_type
  two_first Γ f =
      numbered_all (λ k g. g Γ r None f ≡ None) _ (λ k. refl) twos (refl then refl then refl then refl then end) r.op

  pub two_second : (Γ : Context) (e : Option ValueType) → two_type Γ r e None ≡ None
  unfolding two_type twos load_type binary_type let_type concat_type
  two_second Γ e =
      numbered_all (λ k g. g Γ r e None ≡ None) _ (λ k. refl) twos
      (memory_none e _ (λ a. refl) then immediate_none e _ (λ w. refl) then when_none (is_type (Γ.type r.a) e) then immediate_none e _ (λ w. refl) then end)
      r.op

  pub three_first : (f g : Option ValueType) → three_type r None f g ≡ None
  unfolding three_type threes store_type ite_type
  three_first f g = numbered_all (λ k o. o r None f g ≡ None) _ (λ k. refl) threes (refl then refl then end) r.op

  pub three_second : (e g : Option ValueType) → three_type r e None g ≡ None
  unfolding three_type threes store_type ite_type
  three_second e g =
      numbered_all (λ k o. o r e None g ≡ None) _ (λ k. refl) threes
      (memory_none e _ (λ a. refl) then when_none (is_type (Imm 1) e) then end) r.op

  pub three_third : (e f : Option ValueType) → three_type r e f None ≡ None
  unfolding three_type threes store_type ite_type
  three_third e f =
      numbered_all (λ k o. o r e f None ≡ None) _ (λ k. refl) threes
      (memory_none e _ (λ a. when_never (is_type (Imm a) f) _) then rw (both_none f) (when_none (is_type (Imm 1) e)) then end) r.op
