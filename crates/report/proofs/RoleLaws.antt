-- A variable's line, by its role: a state variable has one, a let variable none. Assumes nothing.
use Rattle.std.proofs.Common.{◌≡◌, refl, List, [], ℕ, ◌+◌, ◌*◌, get_or, ne_eqb, eq-eqb}
use Rattle.table.specs.Bytes.{variable}
use Rattle.report.specs.Lines.{variable_line, line_of}

-- a state variable has its line
pub state_line : (s σ : List ℕ) (x : ℕ) → (variable s x).role ≡ 0 → line_of s σ x ≡ variable_line x (get_or σ (2 * x) 0) (get_or σ (2 * x + 1) 0)
unfolding line_of
state_line s σ x e = rw (eq-eqb (variable s x).role 0 e) refl

-- any other has none
pub let_line : (s σ : List ℕ) (x : ℕ) → ((variable s x).role ≡ 0 → ⊥) → line_of s σ x ≡ []
unfolding line_of
let_line s σ x e = rw (ne_eqb (variable s x).role 0 e) refl
