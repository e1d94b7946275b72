-- The label that a record gives to its expression, by its op and the labels of its operands. Assumes nothing.
use Rattle.std.specs.Prelude.{false, List, [], ◌∷◌, ℕ, Some}
use Rattle.base.specs.Numbered.{numbered}
use Rattle.table.specs.declared.Node.{Node}
use Rattle.table.specs.Decode.{Context}
use Rattle.sealing.specs.Labels.{Label, either, load_label, store_label, let_label}

unfoldable pub leaves : List (ℕ × (Context → Node → Label))
leaves = (1, λ Γ r. Some (Γ.sealed r.a)) ∷ []

unfoldable pub twos : List (ℕ × (Context → Node → Label → Label → Label))
twos = (3, λ Γ r. load_label) ∷ (8, λ Γ r. let_label (Γ.sealed r.a)) ∷ []

unfoldable pub threes : List (ℕ × (Label → Label → Label → Label))
threes = (4, store_label) ∷ []

unfoldable pub leaf_label : Context → Node → Label
unfolding leaves
leaf_label Γ r = numbered (λ Γ r. Some false) leaves r.op Γ r

unfoldable pub two_label : Context → Node → Label → Label → Label
unfolding twos
two_label Γ r e f = numbered (λ Γ r. either) twos r.op Γ r e f

unfoldable pub three_label : Node → Label → Label → Label → Label
unfolding threes
three_label r e f g = numbered (λ e f g. either e (either f g)) threes r.op e f g
