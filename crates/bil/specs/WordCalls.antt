-- The word operations as calls from outside, with any numbers: "A word operation takes sub, width and two words; one call gives
-- a kind (0 bad sub, width or word; 1 word; 2 unknown), another the word, 0 unless the kind is 1." Assumes nothing.
use Rattle.std.specs.Prelude.{Bool, ◌&&◌, ℕ, ◌^◌, ltb, Option, Some, None, Result, Ok, Err, if◌then◌else◌}
use Rattle.base.specs.Choice.{within}
use Rattle.word.specs.Subs.{binary}
use Rattle.bil.specs.declared.BadCall.{BadCall}

-- a sub of 1 to 19, a width of 1 to 64, and two words that need no more bits than the width
abbrev pub good : ℕ → ℕ → ℕ → ℕ → Bool
good sub width a b = within 1 19 sub && (within 1 64 width && (ltb a (2 ^ width) && ltb b (2 ^ width)))

-- "bad sub, width or word"
abbrev pub bad : BadCall
bad = record {}

-- the answer of a call: a word, or None where it is unknown
abbrev pub call : ℕ → ℕ → ℕ → ℕ → Result (Option ℕ) BadCall
call sub width a b = if good sub width a b then Ok (binary sub width a b) else Err bad

-- "a kind (0 bad sub, width or word; 1 word; 2 unknown)"
abbrev pub kind : Result (Option ℕ) BadCall → ℕ
kind (Err e) = 0
kind (Ok (Some r)) = 1
kind (Ok None) = 2

-- "the word, 0 unless the kind is 1"
abbrev pub value : Result (Option ℕ) BadCall → ℕ
value (Err e) = 0
value (Ok (Some r)) = r
value (Ok None) = 0
