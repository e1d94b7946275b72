-- The lines that bilrun prints, as bytes of ASCII: "`verdict CODE PLACE`; if 0, `seal CODE PLACE`, `run CODE PLACE TICKS LOG NEXT` and for
-- each state variable `var N` with `absent`, `word VALUE`, `unknown` or `memory HEAD`, in decimal". Assumes nothing.
use Rattle.std.specs.Prelude.{List, [], ◌∷◌, ◌++◌, ℕ, zero, suc, ◌+◌, ◌*◌, ◌/◌, ◌%◌, eqb, ltb, get_or}
use Rattle.std.specs.Prelude.{if◌then◌else◌}
use Rattle.base.specs.Numbered.{numbered}
use Rattle.table.specs.Bytes.{variable}

-- ------------------------------------------------------------------------------------------------
-- Numbers

-- the digits of a number of at most suc n digits, the first one first
unfoldable pub digits_of : ℕ → ℕ → List ℕ
digits_of zero k = (48 + k) ∷ []
digits_of (suc n) k = if ltb k 10 then (48 + k) ∷ [] else digits_of n (k / 10) ++ ((48 + k % 10) ∷ [])

-- a number of 64 bits has at most 20
unfoldable pub decimal : ℕ → List ℕ
unfolding digits_of
decimal k = digits_of 19 k

-- a space and a number
unfoldable pub field : ℕ → List ℕ
unfolding decimal
field k = 32 ∷ decimal k

-- ------------------------------------------------------------------------------------------------
-- Lines

-- how long they are at most: a word of 7 letters and two numbers, `run` and five numbers, `var` and a number with what the pair says
abbrev pub longest_answer : ℕ
longest_answer = 50

abbrev pub longest_run : ℕ
longest_run = 109

abbrev pub longest_variable : ℕ
longest_variable = 53

abbrev pub line_end : List ℕ
line_end = 10 ∷ []

-- `verdict`, `seal`, `run`, `var`
abbrev pub verdict_word : List ℕ
verdict_word = 118 ∷ 101 ∷ 114 ∷ 100 ∷ 105 ∷ 99 ∷ 116 ∷ []

abbrev pub seal_word : List ℕ
seal_word = 115 ∷ 101 ∷ 97 ∷ 108 ∷ []

abbrev pub run_word : List ℕ
run_word = 114 ∷ 117 ∷ 110 ∷ []

abbrev pub variable_word : List ℕ
variable_word = 118 ∷ 97 ∷ 114 ∷ []

-- ` absent`, ` word`, ` unknown`, ` memory`
abbrev pub absent_word : List ℕ
absent_word = 32 ∷ 97 ∷ 98 ∷ 115 ∷ 101 ∷ 110 ∷ 116 ∷ []

abbrev pub word_word : List ℕ
word_word = 32 ∷ 119 ∷ 111 ∷ 114 ∷ 100 ∷ []

abbrev pub unknown_word : List ℕ
unknown_word = 32 ∷ 117 ∷ 110 ∷ 107 ∷ 110 ∷ 111 ∷ 119 ∷ 110 ∷ []

abbrev pub memory_word : List ℕ
memory_word = 32 ∷ 109 ∷ 101 ∷ 109 ∷ 111 ∷ 114 ∷ 121 ∷ []

-- `verdict CODE PLACE` and `seal CODE PLACE`
unfoldable pub answer_line : List ℕ → ℕ → ℕ → List ℕ
unfolding field
answer_line word code place = word ++ field code ++ field place ++ line_end

-- `run CODE PLACE TICKS LOG NEXT`
unfoldable pub run_line : ℕ → ℕ → ℕ → ℕ → ℕ → List ℕ
unfolding field
run_line code place ticks count next = run_word ++ field code ++ field place ++ field ticks ++ field count ++ field next ++ line_end

-- what a pair of the state says
unfoldable pub content : ℕ → ℕ → List ℕ
unfolding field
content kind n = numbered absent_word ((1, word_word ++ field n) ∷ (2, unknown_word) ∷ (3, memory_word ++ field n) ∷ []) kind

-- `var N` with what its pair says
unfoldable pub variable_line : ℕ → ℕ → ℕ → List ℕ
unfolding field content
variable_line x kind n = variable_word ++ field x ++ content kind n ++ line_end

-- "for each state variable": nothing for a let variable
unfoldable pub line_of : List ℕ → List ℕ → ℕ → List ℕ
unfolding variable_line variable
line_of s σ x = if eqb (variable s x).role 0 then variable_line x (get_or σ (2 * x) 0) (get_or σ (2 * x + 1) 0) else []

-- the lines of the first n variables of a table
unfoldable pub variable_lines : List ℕ → List ℕ → ℕ → List ℕ
unfolding line_of
variable_lines s σ zero = []
variable_lines s σ (suc n) = variable_lines s σ n ++ line_of s σ n
