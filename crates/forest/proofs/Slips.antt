-- The easy slip that paper 01 names about lets: an example that it would break. Assumes nothing.
use mathlib.Core.Path.{◌≡◌, refl}
use mathlib.Core.List.{List, [], ◌∷◌}
use Prim.Native.Nat.{ℕ}
use Rattle.base.specs.declared.codes.Code.TheVariants as Codes
use Rattle.base.specs.Refusals.{Refused, refusal}
use Rattle.table.proofs.Assembler.{assembled, immediate, as_let, var, word, lets, move}
use Rattle.forest.specs.Forest.{forest_rules}

-- let x = 1 in let x = 2 in x
pub twice : List ℕ
unfolding assembled
twice =
    assembled 8 (immediate 8 ∷ as_let (immediate 8) ∷ []) (word 8 1 ∷ word 8 2 ∷ var 1 ∷ lets 1 1 2 ∷ lets 1 0 3 ∷ []) (move 0 4 ∷ [])

-- "Letting a let hide an outer one."
pub hides_no_outer_let : refusal (forest_rules twice) ≡ Refused Codes.Scope 3
unfolding refusal forest_rules twice
hides_no_outer_let = refl
