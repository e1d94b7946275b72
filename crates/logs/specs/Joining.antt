-- What the load's parts hand to each other. Assumes nothing.
use Rattle.std.specs.Prelude.{◌≡◌, ℕ, Bool, List, [], ◌∷◌, ◌++◌, length}
use Rattle.std.proofs.Math.Option.{some}
use Rattle.memory.specs.Access.{in_order, join}

-- one byte more: where i bytes that were read make v, they and b make r
pub record Joins (big : Bool) (i v b r : ℕ) : Type 0 where
  pub is : (bytes : List ℕ) → length bytes ≡ i → join (in_order big bytes) ≡ some v → join (in_order big (bytes ++ (b ∷ []))) ≡ some r
