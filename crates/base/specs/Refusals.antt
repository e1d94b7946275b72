-- "Codes 1 to 18 come in the order of their numbers, the lowest place first". Assumes nothing.
use Rattle.std.specs.Prelude.{◌≡◌, Bool, true, false, List, [], ◌∷◌, ℕ, zero, suc, ◌<◌, ⊤, Result, Ok, Err, Option, Some, None}
use Rattle.std.specs.Prelude.{if◌then◌else◌}
use Rattle.base.specs.declared.codes.Code.{Code}
use Rattle.base.specs.declared.Refusal.{Refusal}
use Rattle.base.specs.Codes.{number}

-- a rule: its code, how many places it looks at, and whether it holds at a place
pub record Rule : Type 0 where
  pub code : Code
  pub places : ℕ
  pub holds : ℕ → Bool

-- ------------------------------------------------------------------------------------------------
-- What an answer says

-- a test holds at each of the first n places
abbrev pub HoldsBelow : (ℕ → Bool) → ℕ → Type 0
HoldsBelow holds n = (i : ℕ) → i < n → holds i ≡ true

-- accepted: every rule holds at each of its places
pub data AllHold : List Rule → Type 0 where
  no_rule : AllHold []
  one_more : {rule : Rule} {later : List Rule} → HoldsBelow rule.holds rule.places → AllHold later → AllHold (rule ∷ later)

-- refused with a code and a place: the rules before the one of that code hold at each of their places; that one holds at every
-- place below, and fails at this one, which is one of its places
pub data FirstFault : List Rule → Code → ℕ → Type 0 where
  here :
      {rule : Rule} {later : List Rule} {place : ℕ} → place < rule.places → HoldsBelow rule.holds place → rule.holds place ≡ false
      → FirstFault (rule ∷ later) rule.code place
  further :
      {rule : Rule} {later : List Rule} {code : Code} {place : ℕ} → HoldsBelow rule.holds rule.places → FirstFault later code place
      → FirstFault (rule ∷ later) code place

-- ------------------------------------------------------------------------------------------------
-- The answer

abbrev pub Answer : Type 0
Answer = Result ⊤ Refusal

abbrev pub Accepted : Answer
Accepted = Ok tt

abbrev pub Refused : Code → ℕ → Answer
Refused code place = Err (record { code = code; place = place })

-- what a function that reads something or refuses answers
abbrev pub answer_of : {X : Type 0} → Result X Refusal → Answer
answer_of (Ok x) = Accepted
answer_of (Err refused) = Err refused

-- the lowest of the first n places where a test fails
unfoldable pub first_bad : (ℕ → Bool) → ℕ → Option ℕ
first_bad holds zero = None
first_bad holds (suc n) = elim (first_bad holds n) [ None ↦ if holds n then None else Some n | Some place ↦ Some place ]

-- the first rule that fails somewhere, at its lowest place
unfoldable pub refusal : List Rule → Answer
unfolding first_bad
refusal [] = Accepted
refusal (rule ∷ later) =
    elim (first_bad rule.holds rule.places) [ None ↦ refusal later | Some place ↦ Refused rule.code place ]

-- the answer to a rule of so many places of which a test tells whether it holds
abbrev pub Searched : (ℕ → Bool → Type 0) → Code → ℕ → Answer → Type 0
Searched Tells code places answer =
    (rule : Rule) → rule.code ≡ code → rule.places ≡ places → ((i : ℕ) (b : Bool) → i < places → Tells i b → b ≡ rule.holds i)
    → answer ≡ refusal (rule ∷ [])

-- a rule of the whole, whose place is 0
abbrev pub whole : Code → Bool → Rule
whole code holds = record { code = code; places = 1; holds = λ place. holds }

-- "Check and seal check give code and place": 0 is "accepted, clean, done", with place 0
abbrev pub code_of : Answer → ℕ
code_of (Ok accepted) = 0
code_of (Err refused) = number refused.code

abbrev pub place_of : Answer → ℕ
place_of (Ok accepted) = 0
place_of (Err refused) = refused.place
