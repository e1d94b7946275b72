-- Values of a type, in a log. Assumes nothing.
use Rattle.std.specs.Prelude.{◌≡◌, ℕ, ◌≤◌, length}
use Rattle.value.specs.declared.ValueType.{ValueType}
use Rattle.value.specs.declared.Value.{Value}
use Rattle.value.specs.declared.Value.TheVariants.{Word, Unknown, Memory}
use Rattle.value.specs.Values.{Sound, type_of}
use Rattle.memory.specs.Log.{Log, width_at}

-- 0, or an entry of a width
pub record Link (L : Log) (w n : ℕ) : Type 0 where
  pub most : n ≤ length L
  pub width : (n ≡ 0 → ⊥) → width_at L n ≡ w

-- "head, for a memory: 1 to the log count, an entry of its address width"
pub record Head (L : Log) (w n : ℕ) : Type 0 where
  pub least : 1 ≤ n
  pub link : Link L w n

abbrev pub HeadOk : Log → Value → Type 0
HeadOk L (Word w a) = Unit
HeadOk L (Unknown t) = Unit
HeadOk L (Memory w head) = Head L w head

-- a word that fits, unknown, or a memory whose head is an entry, of a type
pub record Has (L : Log) (v : Value) (t : ValueType) : Type 0 where
  pub sound : Sound v
  pub type : type_of v ≡ t
  pub head : HeadOk L v
