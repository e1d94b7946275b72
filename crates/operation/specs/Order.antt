-- Paper 01's order of evaluation, by a record's op. Assumes nothing.
use Rattle.std.specs.Prelude.{List, [], ◌∷◌, ℕ}
use Rattle.base.specs.Numbered.{numbered}
use Rattle.table.specs.declared.Node.{Node}
use Rattle.operation.specs.declared.order.Steps.{Steps}
use Rattle.operation.specs.declared.order.Steps.TheVariants.{Leaf, One, Two, Let, Three}

unfoldable pub orders : List (ℕ × (Node → Steps))
orders =
    (3, λ r. Two r.b r.a)  -- "load address then memory"
    ∷ (4, λ r. Three r.c r.b r.a)  -- "store value, address, memory"
    ∷ (5, λ r. Two r.a r.b)  -- "binary and concat left then right"
    ∷ (6, λ r. One r.a)
    ∷ (7, λ r. One r.a)
    ∷ (8, λ r. Let r.b r.c)  -- "let bound then body"
    ∷ (10, λ r. Three r.c r.b r.a)  -- "ite else, then, condition"
    ∷ (11, λ r. One r.a)
    ∷ (12, λ r. Two r.a r.b)
    ∷ []

unfoldable pub steps_of : Node → Steps
unfolding orders
steps_of r = numbered (λ r. Leaf) orders r.op r
