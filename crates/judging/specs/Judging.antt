-- What a judgement of expressions keeps to, whatever it finds of them: types, or labels. Assumes nothing.
use Rattle.std.specs.Prelude.{◌≡◌, ◌≢◌, Bool, true, List, [], ◌∷◌, ℕ, ◌<◌, Option}
use Rattle.table.specs.declared.Node.{Node}
use Rattle.table.specs.Bytes.{header, expression, statement}
use Rattle.table.specs.Records.{RecordsHold}
use Rattle.forest.specs.Forest.{operands_of}

-- what a record makes of what its operands have, by how many they are
pub record Made (X : Type 0) : Type 0 where
  pub leaf : Node → X
  pub one : Node → X → X
  pub two : Node → X → X → X
  pub three : Node → X → X → X → X
  pub more : X

abbrev pub by : {X : Type 0} → Made X → (ℕ → X) → Node → List ℕ → X
by make at r [] = make.leaf r
by make at r (a ∷ []) = make.one r (at a)
by make at r (a ∷ b ∷ []) = make.two r (at a) (at b)
by make at r (a ∷ b ∷ c ∷ []) = make.three r (at a) (at b) (at c)
by make at r (a ∷ b ∷ c ∷ d ∷ ks) = make.more

-- what each expression has is what its record makes of what its operands have
pub record Course {X : Type 0} (s : List ℕ) (make : Made X) (at : ℕ → X) : Type 0 where
  pub each : RecordsHold s → (i : ℕ) → i < (header s).expressions → at i ≡ by make at (expression s i) (operands_of s i)

-- What a rule asks of statements: that what a move names may go to its variable, and what a jump and a guard name to the place of a jump and of a
-- guard. Another statement keeps it.
pub record Asks {X : Type 0} (s : List ℕ) (rule : ℕ → Bool) (may_go : X → Option X → Bool) (at : ℕ → Option X) (variable : ℕ → X) (jump guard : X) : Type 0 where
  pub moves : (i : ℕ) → (statement s i).op ≡ 1 → rule i ≡ may_go (variable (statement s i).a) (at (statement s i).b)
  pub jumps : (i : ℕ) → (statement s i).op ≡ 2 → rule i ≡ may_go jump (at (statement s i).a)
  pub loops : (i : ℕ) → (statement s i).op ≡ 5 → rule i ≡ may_go guard (at (statement s i).a)
  pub branches : (i : ℕ) → (statement s i).op ≡ 6 → rule i ≡ may_go guard (at (statement s i).a)
  pub others : (i : ℕ) → ((statement s i).op ≢ 1) → ((statement s i).op ≢ 2) → ((statement s i).op ≢ 5) → ((statement s i).op ≢ 6) → rule i ≡ true
