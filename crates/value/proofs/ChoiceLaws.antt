-- What a choice gives, by its condition's case. Assumes nothing.
use Rattle.std.proofs.Common.{◌≡◌, ap, sym, ◌∙◌, Bool, ℕ, if◌then◌else◌, eq-eqb, ne_eqb}
use Rattle.value.specs.declared.ValueType.{ValueType}
use Rattle.value.specs.declared.Value.{Value}
use Rattle.value.specs.declared.Value.TheVariants.{Word, Unknown, Memory}
use Rattle.value.specs.Values as Values
use Rattle.value.specs.Values.{Sound, Yields, type_of}
use Rattle.value.proofs.ValueLaws.{yields, choose_sound, choose_type}

module _ (x t o : Value) (sound : Sound t) (sound_2 : Sound o) (same : type_of t ≡ type_of o) where
  done : (r : Value) → r ≡ Values.choose x t o → Yields (type_of t) (Values.choose x t o) r
  done = yields _ _ (choose_sound x t o sound sound_2) (choose_type x t o same)

  by : {y : Value} → x ≡ y → Values.choose y t o ≡ Values.choose x t o
  by e = sym (ap (λ (y : Value). Values.choose y t o) e)

  pub chosen : (w c : ℕ) → x ≡ Word w c → c ≡ 1 → Yields (type_of t) (Values.choose x t o) t
  chosen w c e one = done t (ap (λ (b : Bool). if b then t else o) (sym (eq-eqb _ _ one)) ∙ by e)

  pub not_chosen : (w c : ℕ) → x ≡ Word w c → (c ≡ 1 → ⊥) → Yields (type_of t) (Values.choose x t o) o
  not_chosen w c e other = done o (ap (λ (b : Bool). if b then t else o) (sym (ne_eqb _ _ other)) ∙ by e)

  pub by_unknown : (u r : ValueType) → x ≡ Unknown u → r ≡ type_of t → Yields (type_of t) (Values.choose x t o) (Unknown r)
  by_unknown u r e is = done (Unknown r) (ap Unknown is ∙ by e)

  pub by_memory : (w h : ℕ) (r : ValueType) → x ≡ Memory w h → r ≡ type_of t → Yields (type_of t) (Values.choose x t o) (Unknown r)
  by_memory w h r e is = done (Unknown r) (ap Unknown is ∙ by e)
