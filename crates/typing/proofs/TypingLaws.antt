-- Typing is decided: an expression has a type by the rules exactly where `infer` finds it. Assumes nothing.
use Rattle.std.specs.Prelude.{Option, Some, None}
use mathlib.Core.Path.{◌≡◌, refl, ap}
use mathlib.Core.Bool.{Bool, true, false, false≢true, and-eq-true_iff}
use mathlib.Core.Logic.{◌↔◌}
use Prim.Native.Nat.{ℕ}
use native.Mathlib.Omega.{arith}
use lib.Dec.{leb}
use borrow.Author.Tests.{leb-true, leb-false, le-leb, lt-leb, eqb-true, eq-eqb}
use Rattle.value.specs.declared.ValueType.{ValueType}
use Rattle.value.specs.declared.ValueType.TheVariants.{Imm, Mem}
use Rattle.word.specs.Subs.{binary_width}
use Rattle.table.specs.Decode.{Context}
use Rattle.table.specs.Syntax as S
use Rattle.table.specs.Syntax.{Expr}
use Rattle.typing.specs.Typing as T
use Rattle.typing.specs.Typing.{◌⊢◌∶◌}
use Rattle.typing.specs.Infer.{immediate, memory, when, same_type, is_type, has_type, both_types, may_cast, infer}

-- ------------------------------------------------------------------------------------------------
-- The pieces of `infer`, read back

pub same_refl : (t : ValueType) → same_type t t ≡ true
unfolding same_type
same_refl (Imm w) = eq-eqb w w refl
same_refl (Mem w) = eq-eqb w w refl

pub same_eq : (t u : ValueType) → same_type t u ≡ true → t ≡ u
unfolding same_type
same_eq (Imm w) (Imm v) h = ap Imm (eqb-true w v h)
same_eq (Imm w) (Mem v) h = absurd (false≢true h)
same_eq (Mem w) (Imm v) h = absurd (false≢true h)
same_eq (Mem w) (Mem v) h = ap Mem (eqb-true w v h)

-- each as an elimination: what a result was made of, for what follows from that
module _ {X : Type 0} {t : ValueType} where
  untyped_of : None ≡ Some t → X
  untyped_of h = absurd (let z : ◌≡◌ {A = ℕ} 0 1 = cc in omega arith)

  immediate_of : (o : Option ValueType) (f : ℕ → Option ValueType) → immediate o f ≡ Some t
      → ((w : ℕ) → o ≡ Some (Imm w) → f w ≡ Some t → X) → X
  unfolding immediate
  immediate_of None f h on = untyped_of h
  immediate_of (Some (Imm w)) f h on = on w refl h
  immediate_of (Some (Mem w)) f h on = untyped_of h

  memory_of : (o : Option ValueType) (f : ℕ → Option ValueType) → memory o f ≡ Some t
      → ((a : ℕ) → o ≡ Some (Mem a) → f a ≡ Some t → X) → X
  unfolding memory
  memory_of None f h on = untyped_of h
  memory_of (Some (Imm w)) f h on = untyped_of h
  memory_of (Some (Mem w)) f h on = on w refl h

  when_of : (b : Bool) (o : Option ValueType) → when b o ≡ Some t → (b ≡ true → o ≡ Some t → X) → X
  unfolding when
  when_of true o h on = on refl h
  when_of false o h on = untyped_of h

both_of : (o p : Option ValueType) {t : ValueType} → both_types o p ≡ Some t → (o ≡ Some t) × (p ≡ Some t)
unfolding both_types
both_of None p h = untyped_of h
both_of (Some t) None h = untyped_of h
both_of (Some t) (Some u) h = when_of (same_type t u) (Some t) h λ e p. let q = same_eq t u e in (p, cc)

pub is_type_iff : (t : ValueType) (o : Option ValueType) → (is_type t o ≡ true) ↔ (o ≡ Some t)
unfolding is_type
is_type_iff t None = (λ h. absurd (false≢true h), λ h. untyped_of h)
is_type_iff t (Some u) = (λ h. ap Some (same_eq u t h), λ h. cc (same_refl t))

pub has_type-iff : (o : Option ValueType) → (has_type o ≡ true) ↔ ((t : ValueType) × (o ≡ Some t))
unfolding has_type
has_type-iff None = (λ h. absurd (false≢true h), λ h. untyped_of h.1)
has_type-iff (Some t) = (λ h. (t, refl), λ h. refl)

-- ------------------------------------------------------------------------------------------------
-- A derivation is found

pub complete : {Γ : Context} {e : Expr} {t : ValueType} → Γ ⊢ e ∶ t → infer Γ e ≡ Some t
unfolding infer
complete T.T-VAR = refl
complete T.T-INT = refl
complete (T.T-LOAD {a = a} m e) = rw (complete m, complete e, same_refl (Imm a))
complete (T.T-STORE {z = z} {a = a} m e v) = rw (complete m, complete e, complete v, same_refl (Imm a), same_refl (Imm z))
complete (T.T-AOP {sub} {w} h e f) = rw (complete e, complete f, same_refl (Imm w), le-leb sub 13 h)
complete (T.T-LOP {sub} {w} h e f) = rw (complete e, complete f, same_refl (Imm w), lt-leb sub 13 h)
complete (T.T-UOP e) = rw (complete e)
complete (T.T-CAST-NARROW {sub} {p} {w} h n e) = rw (complete e, le-leb sub 2 h, le-leb p w n)
complete (T.T-CAST-WIDEN {sub} {p} {w} h n e) = rw (complete e, lt-leb sub 2 h, le-leb w p n)
complete {Γ} (T.T-LET {x = x} e f) = rw (complete e, same_refl (Γ.type x)) (complete f)
complete T.T-UNKNOWN = refl
complete (T.T-ITE {t = t} c e f) = rw (complete c, complete e, complete f, same_refl t)
complete (T.T-EXTRACT e) = rw (complete e)
complete (T.T-CONCAT h e f) = rw (complete e, complete f, le-leb _ 64 h)

-- ------------------------------------------------------------------------------------------------
-- What is found has a derivation

typed : {Γ : Context} {e : Expr} {t u : ValueType} → Some t ≡ Some u → Γ ⊢ e ∶ t → Γ ⊢ e ∶ u
typed {t = t} {u = u} h d = let p : t ≡ u = cc in rw p at d

-- T-AOP and T-LOP as one
pub binary_typed : {Γ : Context} {w : ℕ} {e f : Expr} (sub : ℕ) → Γ ⊢ e ∶ Imm w → Γ ⊢ f ∶ Imm w
    → Γ ⊢ S.binary sub e f ∶ Imm (binary_width sub w)
binary_typed {Γ} {w} {e} {f} sub d d₁ = go (leb sub 13) refl
  where
    go : (b : Bool) → leb sub 13 ≡ b → Γ ⊢ S.binary sub e f ∶ Imm (binary_width sub w)
    go true h = rw h (T.T-AOP (leb-true sub 13 h) d d₁)
    go false h = rw h (T.T-LOP (leb-false sub 13 h) d d₁)

-- T-CAST-NARROW and T-CAST-WIDEN as one
pub cast_typed : {Γ : Context} {w : ℕ} {e : Expr} (sub p : ℕ) → may_cast sub w p ≡ true → Γ ⊢ e ∶ Imm w
    → Γ ⊢ S.cast sub p e ∶ Imm p
unfolding may_cast
cast_typed {Γ} {w} {e} sub p n d = go (leb sub 2) refl
  where
    go : (b : Bool) → leb sub 2 ≡ b → Γ ⊢ S.cast sub p e ∶ Imm p
    go true h = T.T-CAST-NARROW (leb-true sub 2 h) (leb-true p w (rw h at n)) d
    go false h = T.T-CAST-WIDEN (leb-false sub 2 h) (leb-true w p (rw h at n)) d

pub sound : {Γ : Context} (e : Expr) {t : ValueType} → infer Γ e ≡ Some t → Γ ⊢ e ∶ t
unfolding infer
sound (S.var x) h = typed h T.T-VAR
sound (S.word w v) h = typed h T.T-INT
sound (S.load z big m e) h =
    memory_of _ _ h λ a p h₁. when_of _ _ h₁ λ q r.
    typed r (T.T-LOAD (sound m p) (sound e ((is_type_iff _ _).0 q)))
sound (S.store z big m e v) h =
    memory_of _ _ h λ a p h₁. when_of _ _ h₁ λ b r.
    let (q, q₁) = (and-eq-true_iff _ _).0 b in
    typed r (T.T-STORE (sound m p) (sound e ((is_type_iff _ _).0 q)) (sound v ((is_type_iff _ _).0 q₁)))
sound (S.binary sub e f) h =
    immediate_of _ _ h λ w p h₁. when_of _ _ h₁ λ q r.
    typed r (binary_typed sub (sound e p) (sound f ((is_type_iff _ _).0 q)))
sound (S.unary sub e) h = immediate_of _ _ h λ w p r. typed r (T.T-UOP (sound e p))
sound (S.cast sub p e) h = immediate_of _ _ h λ w q h₁. when_of _ _ h₁ λ n r. typed r (cast_typed sub p n (sound e q))
sound (S.lets x e f) h = when_of _ _ h λ q r. T.T-LET (sound e ((is_type_iff _ _).0 q)) (sound f r)
sound (S.unknown t) h = typed h T.T-UNKNOWN
sound (S.ite c e f) h =
    when_of _ _ h λ q h₁.
    let (p, r) = both_of _ _ h₁ in
    T.T-ITE (sound c ((is_type_iff _ _).0 q)) (sound e p) (sound f r)
sound (S.extract p q e) h = immediate_of _ _ h λ w d r. typed r (T.T-EXTRACT (sound e d))
sound (S.concat e f) h =
    immediate_of _ _ h λ w p h₁. immediate_of _ _ h₁ λ v q h₂. when_of _ _ h₂ λ n r.
    typed r (T.T-CONCAT (leb-true _ 64 n) (sound e p) (sound f q))
sound S.bad h = untyped_of h

-- ------------------------------------------------------------------------------------------------
-- Typing is decided, and a type is unique

pub decides : {Γ : Context} {e : Expr} {t : ValueType} → (infer Γ e ≡ Some t) ↔ (Γ ⊢ e ∶ t)
decides {e = e} = (sound e, complete)

pub unique : {Γ : Context} {e : Expr} {t u : ValueType} → Γ ⊢ e ∶ t → Γ ⊢ e ∶ u → t ≡ u
unique d d₁ = let p = complete d in let p₁ = complete d₁ in cc

-- the two tests of the verdict
pub this_type_iff : {Γ : Context} {t : ValueType} (e : Expr) → (is_type t (infer Γ e) ≡ true) ↔ (Γ ⊢ e ∶ t)
this_type_iff e = (λ h. sound e ((is_type_iff _ _).0 h), λ d. (is_type_iff _ _).1 (complete d))

pub some_type_iff : {Γ : Context} (e : Expr) → (has_type (infer Γ e) ≡ true) ↔ ((t : ValueType) × (Γ ⊢ e ∶ t))
some_type_iff e = (λ h. let (t, p) = (has_type-iff _).0 h in (t, sound e p), λ d. (has_type-iff _).1 (d.0, complete d.1))
