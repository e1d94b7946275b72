-- Course of values: results by number, each made of its number and of those before it. Assumes nothing.
use Rattle.std.specs.Prelude.{List, [], ◌∷◌, ◌++◌, ℕ, zero, suc}

-- the first n results
unfoldable pub up_to {ℓ} : {X : Type ℓ} → (ℕ → List X → X) → ℕ → List X
up_to f zero = []
up_to f (suc n) = let before = up_to f n in before ++ (f n before ∷ [])
