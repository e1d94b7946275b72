-- The easy slip that paper 01 names about addresses: an example that it would break. Assumes nothing.
use mathlib.Core.Path.{◌≡◌, refl}
use mathlib.Core.Bool.{true}
use mathlib.Core.List.{[], ◌∷◌}
use Rattle.value.specs.declared.Value.TheVariants.{Word, Memory}
use Rattle.memory.specs.Log.{Log}
use Rattle.memory.specs.Access.{load}

-- 0x12 at the highest address, then 0x34 at 0
pub two_bytes : Log
two_bytes =
    record { previous = 1; width = 8; address = 0; byte = 0x34 }
    ∷ record { previous = 0; width = 8; address = 0xff; byte = 0x12 }
    ∷ []

-- "Wrapping addresses at 64 bits and not at the memory's width."
pub wraps_at_the_width : load two_bytes 16 true (Memory 8 2) (Word 8 0xff) ≡ Word 16 0x1234
unfolding load two_bytes
wraps_at_the_width = refl
