-- A word shifted down to its byte; unknown bytes of what is no word. Assumes nothing.
use Rattle.std.proofs.Common.{◌≡◌, ℕ, ◌-◌, ◌*◌, ◌/◌, ◌^◌, Bool, get_or, sym, ◌∙◌, ap₂}
use lib.Bits.{and_mask}
use Rattle.value.specs.declared.Value.{Value}
use Rattle.memory.specs.Access.{bytes_in}
use Rattle.logs.proofs.BytesLaws.{byte_little, byte_big, byte_other}
use Rattle.logs.proofs.store.byte_of.Goals as goal

-- the byte that is asked for, by what the order and the value are
done : (z i : ℕ) {r : ℕ} {big told : Bool} {value given : Value} → r ≡ get_or (bytes_in z big value) i 0 → told ≡ big → given ≡ value
    → r ≡ get_or (bytes_in z told given) i 0
done z i e p q = e ∙ sym (ap₂ (λ (b : Bool) (v : Value). get_or (bytes_in z b v) i 0) p q)

pub returns-then-big : goal.returns-then-big
returns-then-big c =
    let s = c.args in
    let v = c.in-Word.v in
    done s.z s.i (and_mask (v / 2 ^ (s.z - 8 - 8 * s.i)) 8 ∙ sym (byte_big c.requires.size_ok c.requires.i_bound _ v)) c.if-big.true c.in-Word.is

pub returns-else-big : goal.returns-else-big
returns-else-big c =
    let s = c.args in
    let v = c.in-Word.v in
    done s.z s.i (and_mask (v / 2 ^ (8 * s.i)) 8 ∙ sym (byte_little c.requires.size_ok c.requires.i_bound _ v)) c.if-big.false c.in-Word.is

pub returns-in_default : goal.returns-in_default
returns-in_default c = byte_other c.requires.size_ok c.requires.i_bound c.args.big c.args.value c.in_default.not-Word
