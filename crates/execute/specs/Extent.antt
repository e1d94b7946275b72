-- How far a statement goes. Assumes nothing.
use Rattle.std.specs.Prelude.{◌||◌, ℕ, ◌+◌, eqb}
use Rattle.std.specs.Prelude.{if◌then◌else◌}
use Rattle.table.specs.declared.Node.{Node}

-- how many statements stand in the bodies of a statement: "5 while (a guard, b body length ≥ 1); 6 if (a guard, b then length ≥ 1, c else
-- length ≥ 0)"
abbrev pub bodies_of : Node → ℕ
bodies_of r = (if eqb r.op 5 || eqb r.op 6 then r.b else 0) + (if eqb r.op 6 then r.c else 0)
