-- Which way a cast may go, by its sub. Assumes nothing.
use Rattle.std.proofs.Common.{◌≡◌, ℕ, ◌<◌, ◌≤◌, nat_le, arith}
use Rattle.std.proofs.lemmas.Bool.Decides.{nat_tests}
use Rattle.typing.specs.Infer as Infer

-- low and high don't widen
pub narrows : (sub w p : ℕ) → sub ≤ 2 → nat_le p w ≡ Infer.may_cast sub w p
unfolding Infer.may_cast
narrows sub w p h = grind (arith, nat_tests, h)

-- signed and unsigned don't narrow
pub widens : (sub w p : ℕ) → 2 < sub → nat_le w p ≡ Infer.may_cast sub w p
unfolding Infer.may_cast
widens sub w p h = grind (arith, nat_tests, h)
