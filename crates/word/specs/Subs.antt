-- Paper 01's numbers of the operations on words: the subs of op 5 (binary), op 6 (unary) and op 7 (cast). Assumes nothing.
use Rattle.std.specs.Prelude.{cond, ℕ, ◌≤◌, List, [], ◌∷◌, nat_le, Option, Some, None}
use Rattle.std.specs.Prelude.{if◌then◌else◌}
use Rattle.base.specs.Numbered.{numbered}
use Rattle.word.specs.Words as Words

-- ------------------------------------------------------------------------------------------------
-- "Binary subs": each takes a width and two words

abbrev pub binaries : List (ℕ × (ℕ → ℕ → ℕ → Option ℕ))
binaries =
    (1, λ w a b. Some (Words.plus w a b))
    ∷ (2, λ w a b. Some (Words.minus w a b))
    ∷ (3, λ w a b. Some (Words.times w a b))
    ∷ (4, λ w a b. Words.div a b)
    ∷ (5, λ w a b. Words.sdiv w a b)
    ∷ (6, λ w a b. Words.modulo a b)
    ∷ (7, λ w a b. Words.smod w a b)
    ∷ (8, λ w a b. Some (Words.and w a b))
    ∷ (9, λ w a b. Some (Words.or w a b))
    ∷ (10, λ w a b. Some (Words.xor w a b))
    ∷ (11, λ w a b. Some (Words.lsl w a b))
    ∷ (12, λ w a b. Some (Words.lsr w a b))
    ∷ (13, λ w a b. Some (Words.asr w a b))
    ∷ (14, λ w a b. Some (Words.eq a b))
    ∷ (15, λ w a b. Some (Words.neq a b))
    ∷ (16, λ w a b. Some (Words.lt a b))
    ∷ (17, λ w a b. Some (Words.le a b))
    ∷ (18, λ w a b. Some (Words.slt w a b))
    ∷ (19, λ w a b. Some (Words.sle w a b))
    ∷ []

-- a number that is no sub computes nothing
abbrev pub binary : ℕ → ℕ → ℕ → ℕ → Option ℕ
binary = numbered (λ w a b. None) binaries

-- "subs 14 to 19 give 1 bit", the others the operands' width
abbrev pub binary_width : ℕ → ℕ → ℕ
binary_width sub w = if nat_le sub 13 then w else 1

-- ------------------------------------------------------------------------------------------------
-- Op 6: "sub 1 neg, 2 not"; each takes a width and a word

abbrev pub unaries : List (ℕ × (ℕ → ℕ → Option ℕ))
unaries = (1, λ w a. Some (Words.neg w a)) ∷ (2, λ w a. Some (Words.not w a)) ∷ []

abbrev pub unary : ℕ → ℕ → ℕ → Option ℕ
unary = numbered (λ w a. None) unaries

-- ------------------------------------------------------------------------------------------------
-- Op 7: "sub 1 low, 2 high, 3 signed, 4 unsigned"; each takes the word's width, the new width and the word

abbrev pub casts : List (ℕ × (ℕ → ℕ → ℕ → Option ℕ))
casts =
    (1, λ w p a. Some (Words.low p a))
    ∷ (2, λ w p a. Some (Words.high w p a))
    ∷ (3, λ w p a. Some (Words.widened w p a))
    ∷ (4, λ w p a. Some a)
    ∷ []

abbrev pub cast : ℕ → ℕ → ℕ → ℕ → Option ℕ
cast = numbered (λ w p a. None) casts

-- "Low and high don't widen, signed and unsigned don't narrow."
abbrev pub CastFits : ℕ → ℕ → ℕ → Type 0
CastFits sub w p = cond (nat_le sub 2) (p ≤ w) (w ≤ p)
