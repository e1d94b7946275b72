-- The easy slip that paper 01 names about values: an example that it would break. Assumes nothing.
use Rattle.std.proofs.Common.{◌≡◌, refl, ℕ}
use Rattle.value.specs.declared.ValueType.TheVariants.{Imm}
use Rattle.value.specs.declared.Value.TheVariants.{Word, Unknown}
use Rattle.value.specs.Values as Values

-- "Unknown times zero as zero."
pub unknown_times_zero : (w : ℕ) → Values.binary 3 (Unknown (Imm w)) (Word w 0) ≡ Unknown (Imm w)
unknown_times_zero w = refl
