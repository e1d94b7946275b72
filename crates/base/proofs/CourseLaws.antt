-- A course of values by its equations: each result is made of its number and of the results before it. Assumes nothing.
use mathlib.Core.Path.{◌≡◌, refl, ◌∙◌}
use mathlib.Core.List.{List, []}
use Prim.Native.Nat.{ℕ, zero, suc, ◌<◌}
use native.Mathlib.Nat.{not-suc-le-zero}
use native.Mathlib.Decide.{dec_lt}
use native.Mathlib.Omega.{arith}
use lib.ListN.{length, get_or, length-append, get_or-append}
use lib.Seq.{get_or-append_seam}
use Rattle.base.specs.Course.{up_to}

pub length-up_to {ℓ} : {X : Type ℓ} (f : ℕ → List X → X) (n : ℕ) → length (up_to f n) ≡ n
unfolding up_to
length-up_to f zero = refl
length-up_to f (suc n) = let h = length-up_to f n in simp length-append (omega arith)

-- result i of any longer course
pub up_to_at {ℓ} : {X : Type ℓ} (f : ℕ → List X → X) (n i : ℕ) (d : X) → i < n → get_or (up_to f n) i d ≡ f i (up_to f i)
unfolding up_to
up_to_at f zero i d h = absurd (not-suc-le-zero h)
up_to_at f (suc n) i d h = go (dec_lt i n) (up_to_at f n i d)
  where
    go : Dec (i < n) → (i < n → get_or (up_to f n) i d ≡ f i (up_to f i)) → get_or (up_to f (suc n)) i d ≡ f i (up_to f i)
    go (yes k) ih = get_or-append (up_to f n) _ d i (rw (length-up_to f n) k) ∙ ih k
    go (no k) ih =
        let e : i ≡ n = omega arith in
        rw e (rw (length-up_to f n) at (get_or-append_seam (up_to f n) (f n (up_to f n)) [] d))
