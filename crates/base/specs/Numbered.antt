-- Lists whose entries stand under the numbers that a paper gives them. Assumes nothing.
use Rattle.std.specs.Prelude.{true, false, List, [], ◌∷◌, ℕ, eqb}

-- what stands under a number, or the first argument for a number that is not listed
abbrev pub numbered {ℓ} : {X : Type ℓ} → X → List (ℕ × X) → ℕ → X
numbered other [] k = other
numbered other (e ∷ rest) k = elim (eqb k e.0) [ true ↦ e.1 | false ↦ numbered other rest k ]
