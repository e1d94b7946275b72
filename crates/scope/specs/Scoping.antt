-- What the functions that look for refusal 11 hand to each other: of each expression the nearest let in whose body it stands. Assumes
-- nothing.
use Rattle.std.specs.Prelude.{◌≡◌, false, ◌||◌, List, ℕ, ◌+◌, ◌≤◌, ◌<◌, eqb, length, get_or}
use Rattle.table.specs.declared.Node.{Node}
use Rattle.table.specs.Bytes.{header, expression}
use Rattle.table.specs.Fields.{operands, expression_row}
use Rattle.forest.specs.Forest.{in_body_of}
use Rattle.forest.specs.Counting.{Stands}

-- let m is the nearest in whose body expression k stands: k stands in its body, and beside that in the bodies that m stands in
pub record Leads (s : List ℕ) (k m : ℕ) : Type 0 where
  pub op : (expression s m).op ≡ 8
  pub later : k < m
  pub counted : m < (header s).expressions
  pub each : (x : ℕ) → in_body_of s x k ≡ (eqb (expression s m).a x || in_body_of s x m)

-- v is 0 where expression k stands in the body of no let, and else one more than the number of the nearest
pub record Nearest (s : List ℕ) (k v : ℕ) : Type 0 where
  pub outside : v ≡ 0 → (x : ℕ) → in_body_of s x k ≡ false
  pub inside : (m : ℕ) → v ≡ m + 1 → Leads s k m

-- from expression i on each has its nearest let
pub record NearestFrom (s lets : List ℕ) (i : ℕ) : Type 0 where
  pub each : (k : ℕ) → i ≤ k → k < (header s).expressions → Nearest s k (get_or lets k 0)

-- v was stored at each number of a list and nowhere else
pub record Stored (v : ℕ) (ks before after : List ℕ) : Type 0 where
  pub long : length after ≡ length before
  pub here : (k : ℕ) → Stands k ks → get_or after k 0 ≡ v
  pub other : (k : ℕ) → (Stands k ks → ⊥) → get_or after k 0 ≡ get_or before k 0

-- expression i with the record r hands its nearest let to its operands, and a let itself to its body
pub record HandedDown (r : Node) (i : ℕ) (before after : List ℕ) : Type 0 where
  pub long : length after ≡ length before
  pub body : r.op ≡ 8 → get_or after r.c 0 ≡ i + 1
  pub operand : (k : ℕ) → Stands k (operands (expression_row r) r) → (r.op ≡ 8 → r.c ≡ k → ⊥) → get_or after k 0 ≡ get_or before i 0
  pub other : (k : ℕ) → (Stands k (operands (expression_row r) r) → ⊥) → get_or after k 0 ≡ get_or before k 0
