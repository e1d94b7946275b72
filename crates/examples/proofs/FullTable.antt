-- A whole table with 256 variables, 2,048 expressions and 1,024 statements is accepted. It isn't computed, for the rule of the 256 variables alone takes
-- seconds: its records are read back by a law, and then each rule holds at each of its places for a reason that doesn't know the place. Assumes nothing.
use mathlib.Core.Path.{◌≡◌, refl, sym, ap, ap₂, ◌∙◌}
use mathlib.Core.Bool.{Bool, true, not, ◌&&◌, ◌||◌}
use mathlib.Core.List.{List, [], ◌∷◌, ◌++◌, map, flat_map, append-nil}
use Prim.Native.Nat.{ℕ, zero, suc, ◌+◌, ◌-◌, ◌*◌, ◌≤◌, ◌<◌, max}
use native.Mathlib.Nat.{not-suc-le-zero}
use native.Mathlib.Decide.{dec_lt}
use native.Mathlib.Omega.{arith}
use lib.Dec.{leb, ltb, eqb, lit<}
use lib.ListN.{length, get_or, drop, replicate, length-replicate}
use lib.Seq.{drop-drop}
use borrow.Author.Tests.{lt-ltb, le-leb, le-ltb, eq-eqb, ne_eqb}
use Rattle.std.specs.Prelude.{Option, if◌then◌else◌}
use Rattle.base.specs.Numbered.{numbered}
use Rattle.base.specs.Refusals.{Accepted, HoldsBelow, AllHold, no_rule, one_more}
use Rattle.base.proofs.BoolLaws.{and_both}
use Rattle.base.proofs.CourseLaws.{up_to_at}
use Rattle.base.proofs.RefusalLaws.{accepted_iff}
use Rattle.value.specs.declared.ValueType.{ValueType}
use Rattle.table.specs.declared.Header.{Header}
use Rattle.table.specs.declared.Variable.{Variable}
use Rattle.table.specs.declared.Node.{Node}
use Rattle.table.specs.Bytes.{header, variable_at, node_at, variable, expression, statement, expressions_from, statements_from}
use Rattle.table.specs.Decode.{context, declared_type, assemble, exprs, expr}
use Rattle.table.specs.Fields.{operands, expression_row, statement_row}
use Rattle.table.specs.Records.{record_rules, variable_rule, expression_rule, statement_rule, variable_ok, is_let, record_ok}
use Rattle.table.specs.Records.{first_end, second_end, ends_around, block_end}
use Rattle.table.specs.Syntax as S
use Rattle.table.proofs.Assembler.{header_of, variable_bytes, node_bytes, assembled, immediate, word, unary, move}
use Rattle.table.proofs.ExpressionLaws.{expr_is}
use Rattle.forest.specs.Forest.{forest_rules, use_rule, depth_rule, nesting_rule, scope_rule}
use Rattle.forest.specs.Forest.{how_often, over, uses, operands_of, expressions_of, largest, depths, nesting, in_body_of, in_scope}
use Rattle.forest.proofs.CountLaws.{how_often-append}
use Rattle.forest.proofs.DepthLaws.{depths_at}
use Rattle.typing.specs.Infer.{infer, is_type, has_type}
use Rattle.typing.specs.Verdict.{type_rules, check, expression_type_rule, statement_type_rule, statement_typed, statement_types}
use Rattle.examples.proofs.ReadBack.{variable_drop, node_drop, variable_copy, from, node_from}
use Rattle.examples.proofs.ReadBack.{length_from, behind_header, behind_variables, behind_expressions, length-assembled, header_assembled}
use Rattle.examples.specs.Limits.{Counted, most_told}

-- ------------------------------------------------------------------------------------------------
-- How often a number stands in lists by their numbers

never : (f : ℕ → List ℕ) (i n : ℕ) → ((k : ℕ) → k < n → how_often i (f k) ≡ 0) → how_often i (over f n) ≡ 0
unfolding over how_often
never f i zero none = refl
never f i (suc n) none =
    omega (arith, how_often-append i (over f n) (f n), never f i n (λ k h. none k (omega arith)), none n (omega arith))

once :
    (f : ℕ → List ℕ) (i p n : ℕ) → p < n → how_often i (f p) ≡ 1 → ((k : ℕ) → k < n → (k ≡ p → ⊥) → how_often i (f k) ≡ 0)
    → how_often i (over f n) ≡ 1
unfolding over
once f i p zero h here other = absurd (not-suc-le-zero h)
once f i p (suc n) h here other = go (dec_lt p n) (λ l. once f i p n l here (λ k m. other k (omega arith)))
  where
    go : Dec (p < n) → (p < n → how_often i (over f n) ≡ 1) → how_often i (over f (suc n)) ≡ 1
    go (yes l) before = omega (arith, how_often-append i (over f n) (f n), before l, other n (omega arith) (λ e. omega arith))
    go (no l) before =
        let e : n ≡ p = omega arith in
        let last : how_often i (f n) ≡ 1 = ap (λ (k : ℕ). how_often i (f k)) e ∙ here in
        omega (arith, how_often-append i (over f n) (f n), never f i n (λ k h. other k (omega arith) (λ e. omega arith)), last)

alone : (i k : ℕ) → i ≡ k → how_often i (k ∷ []) ≡ 1
unfolding how_often
alone i k e = ap (λ (t : Bool). (if t then 1 else 0) + 0) (eq-eqb i k e)

another : (i k : ℕ) → (i ≡ k → ⊥) → how_often i (k ∷ []) ≡ 0
unfolding how_often
another i k e = ap (λ (t : Bool). (if t then 1 else 0) + 0) (ne_eqb i k e)

-- ------------------------------------------------------------------------------------------------
-- A table of 1,024 words, then the not of each, and a move of each not

module _
    (s : List ℕ)
    (counts : header s ≡ header_of 64 256 2048 1024)
    (variables : (i : ℕ) → i < 256 → variable s i ≡ immediate 8)
    (words : (j : ℕ) → j < 1024 → expression s j ≡ word 8 5)
    (nots : (j : ℕ) → j < 1024 → expression s (1024 + j) ≡ unary 2 j)
    (moves : (i : ℕ) → i < 1024 → statement s i ≡ move 0 (1024 + i)) where
  variables_are : (header s).variables ≡ 256
  unfolding header_of
  variables_are = ap (λ (h : Header). h.variables) counts

  expressions_are : (header s).expressions ≡ 2048
  unfolding header_of
  expressions_are = ap (λ (h : Header). h.expressions) counts

  statements_are : (header s).statements ≡ 1024
  unfolding header_of
  statements_are = ap (λ (h : Header). h.statements) counts

  -- what holds at each word and at each not holds at each expression
  each_expression :
      (test : ℕ → Bool) → ((j : ℕ) → j < 1024 → test j ≡ true) → ((j : ℕ) → j < 1024 → test (1024 + j) ≡ true)
      → HoldsBelow test (header s).expressions
  each_expression test w n i h = go (dec_lt i 1024)
    where
      go : Dec (i < 1024) → test i ≡ true
      go (yes l) = w i l
      go (no l) =
          let e : i ≡ 1024 + (i - 1024) = omega arith in
          ap test e ∙ n (i - 1024) (omega (arith, expressions_are))

  -- 5
  variable_holds : HoldsBelow (variable_rule s).holds (header s).variables
  unfolding variable_rule variable_ok
  variable_holds i h = ap variable_ok (variables i (omega (arith, variables_are)))

  -- 6
  expression_holds : HoldsBelow (expression_rule s).holds (header s).expressions
  unfolding expression_rule record_ok expression_row
  expression_holds =
      each_expression (expression_rule s).holds
      (λ j h. ap (λ (r : Node). record_ok s j (expression_row r) r) (words j h))
      (λ j h. ap (λ (r : Node). record_ok s (1024 + j) (expression_row r) r) (nots j h)
      ∙ ap (λ (t : Bool). t && true) (lt-ltb j (1024 + j) (omega arith)))

  -- 7: no statement has a body, so that all of them stand in the block of the table
  first-end : (j : ℕ) → j < 1024 → first_end s j ≡ suc j
  unfolding first_end
  first-end j h =
      let none : suc j + 0 ≡ suc j = omega arith in
      ap (λ (r : Node). suc j + (if eqb r.op 5 || eqb r.op 6 then r.b else 0)) (moves j h) ∙ none

  second-end : (j : ℕ) → j < 1024 → second_end s j ≡ suc j
  unfolding second_end
  second-end j h =
      let none : suc j + 0 ≡ suc j = omega arith in
      ap₂ (λ (n : ℕ) (r : Node). n + (if eqb r.op 6 then r.c else 0)) (first-end j h) (moves j h) ∙ none

  no_ends : (i j : ℕ) → j ≤ i → i < 1024 → ends_around s i j ≡ []
  unfolding ends_around
  no_ends i zero le h = refl
  no_ends i (suc j) le h =
      let outer : List ℕ = ends_around s i j in
      ap₂ (λ (n m : ℕ). if ltb i n then n ∷ outer else (if ltb i m then m ∷ outer else outer)) (first-end j (omega arith)) (second-end j (omega arith))
      ∙ ap (λ (t : Bool). if t then suc j ∷ outer else (if t then suc j ∷ outer else outer)) (le-ltb i (suc j) le)
      ∙ no_ends i j (omega arith) h

  block-end : (i : ℕ) → i < 1024 → block_end s i ≡ (header s).statements
  unfolding block_end
  block-end i h = ap (λ (ends : List ℕ). elim ends [ [] ↦ (header s).statements | e ∷ outer ↦ e ]) (no_ends i i (omega arith) h)

  statement_holds : HoldsBelow (statement_rule s).holds (header s).statements
  unfolding statement_rule record_ok statement_row
  statement_holds i h =
      let inside : i < 1024 = omega (arith, statements_are) in
      and_both
      (ap (λ (r : Node). record_ok s (header s).expressions (statement_row r) r) (moves i inside)
      ∙ and_both
      (and_both (lt-ltb 0 (header s).variables (omega (arith, variables_are))) (ap (λ (v : Variable). eqb v.role 0) (variables 0 (lit< tt))))
      (and_both (lt-ltb (1024 + i) (header s).expressions (omega (arith, expressions_are))) refl))
      (ap₂ leb (second-end i inside) (block-end i inside) ∙ le-leb (suc i) (header s).statements h)

  -- 8: word j is used by not j, which is used by statement j
  operands_of-word : (j : ℕ) → j < 1024 → operands_of s j ≡ []
  unfolding operands_of operands expression_row
  operands_of-word j h = ap (λ (r : Node). operands (expression_row r) r) (words j h)

  operands_of-not : (j : ℕ) → j < 1024 → operands_of s (1024 + j) ≡ j ∷ []
  unfolding operands_of operands expression_row
  operands_of-not j h = ap (λ (r : Node). operands (expression_row r) r) (nots j h)

  expressions_of-move : (i : ℕ) → i < 1024 → expressions_of s i ≡ (1024 + i) ∷ []
  unfolding expressions_of operands statement_row
  expressions_of-move i h = ap (λ (r : Node). operands (statement_row r) r) (moves i h)

  in_expression : (i k : ℕ) → k < 2048 → ((k ≡ 1024 + i → ⊥) → how_often i (operands_of s k) ≡ 0)
  unfolding how_often
  in_expression i k h other = go (dec_lt k 1024)
    where
      go : Dec (k < 1024) → how_often i (operands_of s k) ≡ 0
      go (yes l) = ap (how_often i) (operands_of-word k l)
      go (no l) =
          let j : ℕ = k - 1024 in
          let e : k ≡ 1024 + (k - 1024) = omega arith in
          ap (λ (k : ℕ). how_often i (operands_of s k)) e
          ∙ ap (how_often i) (operands_of-not (k - 1024) (omega arith))
          ∙ another i (k - 1024) (λ q. other (omega arith))

  in_statement : (i k : ℕ) → k < 1024 → (i ≡ 1024 + k → ⊥) → how_often i (expressions_of s k) ≡ 0
  in_statement i k h other = ap (how_often i) (expressions_of-move k h) ∙ another i (1024 + k) other

  use_holds : HoldsBelow (use_rule s).holds (header s).expressions
  unfolding use_rule uses
  use_holds = each_expression (use_rule s).holds (λ j h. eq-eqb _ 1 (word_used j h)) (λ j h. eq-eqb _ 1 (not_used j h))
    where
      both : (i : ℕ)
          → how_often i (over (operands_of s) (header s).expressions ++ over (expressions_of s) (header s).statements)
          ≡ how_often i (over (operands_of s) 2048) + how_often i (over (expressions_of s) 1024)
      both i =
          how_often-append i (over (operands_of s) (header s).expressions) (over (expressions_of s) (header s).statements)
          ∙ ap₂ (λ (e n : ℕ). how_often i (over (operands_of s) e) + how_often i (over (expressions_of s) n)) expressions_are statements_are

      word_used : (j : ℕ) → j < 1024 → how_often j (uses s) ≡ 1
      word_used j h =
          let here = ap (how_often j) (operands_of-not j h) ∙ alone j j refl in
          let first = once (operands_of s) j (1024 + j) 2048 (omega arith) here (in_expression j) in
          let second = never (expressions_of s) j 1024 (λ k l. in_statement j k l (λ e. omega arith)) in
          both j ∙ ap₂ ◌+◌ first second

      not_used : (j : ℕ) → j < 1024 → how_often (1024 + j) (uses s) ≡ 1
      not_used j h =
          let here = ap (how_often (1024 + j)) (expressions_of-move j h) ∙ alone (1024 + j) (1024 + j) refl in
          let first = never (operands_of s) (1024 + j) 2048 (λ k l. in_expression (1024 + j) k l (λ e. omega arith)) in
          let second = once (expressions_of s) (1024 + j) j 1024 h here (λ k l other. in_statement (1024 + j) k l (λ e. other (omega arith))) in
          both (1024 + j) ∙ ap₂ ◌+◌ first second

  -- 9: a word has depth 1, a not depth 2
  word_depth : (n j : ℕ) → j < n → j < 1024 → get_or (depths s n) j 0 ≡ 1
  unfolding largest
  word_depth n j l h = depths_at s n j l ∙ ap (λ (ks : List ℕ). suc (largest (map (λ k. get_or (depths s j) k 0) ks))) (operands_of-word j h)

  not_depth : (j : ℕ) → j < 1024 → get_or (depths s (header s).expressions) (1024 + j) 0 ≡ 2
  unfolding largest
  not_depth j h =
      depths_at s (header s).expressions (1024 + j) (omega (arith, expressions_are))
      ∙ ap (λ (ks : List ℕ). suc (largest (map (λ k. get_or (depths s (1024 + j)) k 0) ks))) (operands_of-not j h)
      ∙ ap (λ (d : ℕ). suc (max d 0)) (word_depth (1024 + j) j (omega arith) h)

  depth_holds : HoldsBelow (depth_rule s).holds (header s).expressions
  unfolding depth_rule
  depth_holds =
      each_expression (depth_rule s).holds
      (λ j h. ap (λ (d : ℕ). leb d 64) (word_depth (header s).expressions j (omega (arith, expressions_are)) h))
      (λ j h. ap (λ (d : ℕ). leb d 64) (not_depth j h))

  -- 10
  nesting_holds : HoldsBelow (nesting_rule s).holds (header s).statements
  unfolding nesting_rule nesting
  nesting_holds i h = ap (λ (ends : List ℕ). leb (suc (length ends)) 32) (no_ends i i (omega arith) (omega (arith, statements_are)))

  -- 11: there is no let
  scope_holds : HoldsBelow (scope_rule s).holds (header s).expressions
  unfolding scope_rule in_scope
  scope_holds = each_expression (scope_rule s).holds (λ j h. ap (scoped j) (words j h)) (λ j h. ap (scoped (1024 + j)) (nots j h))
    where
      scoped : ℕ → Node → Bool
      scoped i r =
          if eqb r.op 1 && is_let (variable s r.a) then in_body_of s r.a i else (if eqb r.op 8 then not (in_body_of s r.a i) else true)

  -- 12
  word_is : (j : ℕ) → j < 1024 → expr s j ≡ S.word 8 5
  unfolding assemble
  word_is j h = expr_is s j (omega (arith, expressions_are)) ∙ ap (λ (r : Node). assemble r (λ k. get_or (exprs s j) k S.bad)) (words j h)

  not_is : (j : ℕ) → j < 1024 → expr s (1024 + j) ≡ S.unary 2 (S.word 8 5)
  unfolding assemble exprs
  not_is j h =
      expr_is s (1024 + j) (omega (arith, expressions_are))
      ∙ ap (λ (r : Node). assemble r (λ k. get_or (exprs s (1024 + j)) k S.bad)) (nots j h)
      ∙ ap (S.unary 2) (up_to_at _ (1024 + j) j S.bad (omega arith) ∙ ap (λ (r : Node). assemble r (λ k. get_or (exprs s j) k S.bad)) (words j h))

  expression_typed : HoldsBelow (expression_type_rule s).holds (header s).expressions
  unfolding expression_type_rule infer has_type
  expression_typed =
      each_expression (expression_type_rule s).holds
      (λ j h. ap (λ e. has_type (infer (context s) e)) (word_is j h))
      (λ j h. ap (λ e. has_type (infer (context s) e)) (not_is j h))

  -- 13
  statement-typed : HoldsBelow (statement_type_rule s).holds (header s).statements
  unfolding statement_type_rule statement_typed statement_types is_type infer context
  statement-typed i h =
      let inside : i < 1024 = omega (arith, statements_are) in
      let type : ℕ → Option ValueType = λ k. infer (context s) (expr s k) in
      ap (λ (r : Node). numbered (λ Γ A r type. true) statement_types r.op (context s) (header s).width r type) (moves i inside)
      ∙ ap₂ (λ (v : Variable) e. is_type (declared_type v) (infer (context s) e)) (variables 0 (lit< tt)) (not_is i inside)

  -- 5 to 13
  records_accepted : AllHold (record_rules s ++ (forest_rules s ++ type_rules s))
  unfolding record_rules forest_rules type_rules
  records_accepted =
      one_more variable_holds
      (one_more expression_holds
      (one_more statement_holds
      (one_more use_holds
      (one_more depth_holds
      (one_more nesting_holds (one_more scope_holds (one_more expression_typed (one_more statement-typed no_rule))))))))

-- ------------------------------------------------------------------------------------------------
-- Its bytes: 256 bytes to move to, 1,024 times 5, the not of each, and each not moved to variable 0

expression_of : ℕ → Node
expression_of i = if ltb i 1024 then word 8 5 else unary 2 (i - 1024)

statement_of : ℕ → Node
statement_of i = move 0 (1024 + i)

all_variables : List Variable
all_variables = replicate 256 (immediate 8)

all_expressions : List Node
unfolding from expression_of
all_expressions = from expression_of 0 2048

all_statements : List Node
unfolding from statement_of
all_statements = from statement_of 0 1024

pub full : List ℕ
unfolding assembled all_variables all_expressions all_statements
full = assembled 64 all_variables all_expressions all_statements

variables_long : length all_variables ≡ 256
unfolding all_variables
variables_long = length-replicate {A = Variable} 256 (immediate 8)

expressions_long : length all_expressions ≡ 2048
unfolding all_expressions
expressions_long = length_from expression_of 0 2048

statements_long : length all_statements ≡ 1024
unfolding all_statements
statements_long = length_from statement_of 0 1024

pub full_counts : Counted full 64 256 2048 1024
unfolding full
full_counts =
    record {
      is = header_assembled 64 all_variables all_expressions all_statements ∙ (λ i. header_of 64 (variables_long i) (expressions_long i) (statements_long i));
      long =
          length-assembled 64 all_variables all_expressions all_statements
          ∙ (λ i. 32 + 8 * variables_long i + 16 * expressions_long i + 16 * statements_long i);
    }

-- what stands behind the header, behind the variables and behind the expressions
variables_on : drop 32 full ≡ flat_map variable_bytes all_variables ++ (flat_map node_bytes all_expressions ++ flat_map node_bytes all_statements)
unfolding full
variables_on = behind_header 64 all_variables all_expressions all_statements

expressions_on : drop 2080 full ≡ flat_map node_bytes all_expressions ++ flat_map node_bytes all_statements
unfolding full
expressions_on =
    (λ i. drop (32 + 8 * sym variables_long i) full) ∙ behind_variables 64 all_variables all_expressions all_statements

statements_on : drop 34848 full ≡ flat_map node_bytes all_statements ++ []
unfolding full
statements_on =
    (λ i. drop (32 + 8 * sym variables_long i + 16 * sym expressions_long i) full)
    ∙ behind_expressions 64 all_variables all_expressions all_statements
    ∙ sym (append-nil (flat_map node_bytes all_statements))

full_variable : (i : ℕ) → i < 256 → variable full i ≡ immediate 8
unfolding variable all_variables
full_variable i h =
    sym (variable_drop full (32 + 8 * i))
    ∙ ap (λ (l : List ℕ). variable_at l 0) (sym (drop-drop (8 * i) 32 full) ∙ ap (drop (8 * i)) variables_on)
    ∙ variable_copy i 256 (flat_map node_bytes all_expressions ++ flat_map node_bytes all_statements) h

full_expression : (i : ℕ) → i < 2048 → expression full i ≡ expression_of (0 + i)
unfolding expression header_of all_expressions
full_expression i h =
    ap (λ (f : Header). node_at full (expressions_from f + 16 * i)) full_counts.is
    ∙ sym (node_drop full (2080 + 16 * i))
    ∙ ap (λ (l : List ℕ). node_at l 0) (sym (drop-drop (16 * i) 2080 full) ∙ ap (drop (16 * i)) expressions_on)
    ∙ node_from expression_of 0 2048 i (flat_map node_bytes all_statements) h

full_statement : (i : ℕ) → i < 1024 → statement full i ≡ statement_of (0 + i)
unfolding statement header_of all_statements
full_statement i h =
    ap (λ (f : Header). node_at full (statements_from f + 16 * i)) full_counts.is
    ∙ sym (node_drop full (34848 + 16 * i))
    ∙ ap (λ (l : List ℕ). node_at l 0) (sym (drop-drop (16 * i) 34848 full) ∙ ap (drop (16 * i)) statements_on)
    ∙ node_from statement_of 0 1024 i [] h

full_records : AllHold (record_rules full ++ (forest_rules full ++ type_rules full))
unfolding expression_of statement_of
full_records = records_accepted full full_counts.is full_variable words nots moves
  where
    words : (j : ℕ) → j < 1024 → expression full j ≡ word 8 5
    words j h =
        let e : 0 + j ≡ j = omega arith in
        full_expression j (omega arith) ∙ ap expression_of e ∙ ap (λ (t : Bool). if t then word 8 5 else unary 2 (j - 1024)) (lt-ltb j 1024 h)

    nots : (j : ℕ) → j < 1024 → expression full (1024 + j) ≡ unary 2 j
    nots j h =
        let e : 0 + (1024 + j) ≡ 1024 + j = omega arith in
        let o : 1024 + j - 1024 ≡ j = omega arith in
        full_expression (1024 + j) (omega arith)
        ∙ ap expression_of e
        ∙ ap (λ (t : Bool). if t then word 8 5 else unary 2 (1024 + j - 1024)) (le-ltb (1024 + j) 1024 (omega arith))
        ∙ ap (unary 2) o

    moves : (i : ℕ) → i < 1024 → statement full i ≡ move 0 (1024 + i)
    moves i h = let e : 0 + i ≡ i = omega arith in full_statement i h ∙ ap statement_of e

-- "variables V (0 to 256)", "expressions E (0 to 2,048)", "statements S (1 to 1,024)": the most of each, and A the most
pub full_accepted : check full ≡ Accepted
full_accepted = most_told full full_counts ∙ (accepted_iff (record_rules full ++ (forest_rules full ++ type_rules full))).1 full_records
