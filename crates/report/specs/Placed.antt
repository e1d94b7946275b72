-- A text that is put into a buffer. Assumes nothing.
use Rattle.std.specs.Prelude.{◌≡◌, List, ℕ, ◌+◌, ◌≤◌, length}
use Rattle.std.proofs.lemmas.List.Edits.{sets}
use Rattle.report.specs.declared.text.Text.{Text}

-- the text is put behind what stands, in the same buffer, and nothing else changed; it is at most `most` bytes long
pub record Puts (most : ℕ) (before : Text) (text : List ℕ) (after : Text) : Type 0 where
  pub is : after.buffer.now ≡ sets before.buffer.now before.end text
  pub end : after.end ≡ before.end + length text
  pub near : after.end ≤ before.end + most
  pub same_length : length after.buffer.now ≡ length before.buffer.now
  pub same_buffer : after.buffer.ghost_name ≡ before.buffer.ghost_name
