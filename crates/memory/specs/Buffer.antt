-- The log in its buffer as the code has it, and what the code makes of it. Assumes nothing.
use Rattle.std.specs.Prelude.{◌≡◌, ℕ, ◌+◌, ◌*◌, length}
use Rattle.std.proofs.lemmas.List.Edits.{sets}
use Rattle.memory.specs.declared.Entry.{Entry}
use Rattle.memory.specs.declared.LogBuffer.{LogBuffer}
use Rattle.memory.specs.Log.{Log, entry_size, entries, fields_of, holding, room_in}

-- the log that a buffer has
abbrev pub held : LogBuffer → Log
held b = entries b.numbers.now b.count

-- how many entries it has room for
abbrev pub room_of : LogBuffer → ℕ
room_of b = room_in b.numbers.now

-- buffer c is buffer b with the log L in it: "Log beyond the count given back is unchanged."
pub record Becomes (b : LogBuffer) (L : Log) (c : LogBuffer) : Type 0 where
  pub count : c.count ≡ length L
  pub holds : c.numbers.now ≡ holding b.numbers.now L
  pub same : c.numbers.ghost_name ≡ b.numbers.ghost_name  -- one and the same memory

-- buffer c is buffer b with entry e written behind the others
pub record Pushed (b : LogBuffer) (e : Entry) (c : LogBuffer) : Type 0 where
  pub count : c.count ≡ b.count + 1
  pub numbers : c.numbers.now ≡ sets b.numbers.now (entry_size * b.count) (fields_of e)
  pub same : c.numbers.ghost_name ≡ b.numbers.ghost_name
