-- The records of assembled bytes are read back, wherever they stand. Assumes nothing.
use mathlib.Core.Path.{◌≡◌, refl, sym, ap, ap₂, ◌∙◌}
use mathlib.Core.List.{List, [], ◌∷◌, ◌++◌, flat_map}
use Prim.Native.Nat.{ℕ, zero, suc, ◌+◌, ◌*◌, ◌/◌, ◌%◌, ◌<◌}
use native.Mathlib.Nat.{not-suc-le-zero}
use native.Mathlib.Omega.{arith}
use lib.ListN.{length, get_or, drop, replicate, length-append}
use lib.Seq.{get_or-drop, drop-drop, drop_at}
use Rattle.table.specs.declared.Variable.{Variable}
use Rattle.table.specs.declared.Node.{Node}
use Rattle.table.specs.Bytes.{number, header, variable_at, node_at}
use Rattle.table.proofs.Assembler.{header_of, variable_bytes, node_bytes, assembled, immediate}

-- ------------------------------------------------------------------------------------------------
-- A record is read where the bytes before it are dropped

number_drop : (n : ℕ) (s : List ℕ) (at k : ℕ) → number n (drop at s) k ≡ number n s (at + k)
unfolding number
number_drop zero s at k = refl
number_drop (suc n) s at k =
    let next : at + (k + 1) ≡ at + k + 1 = omega arith in
    ap₂ (λ (b m : ℕ). b + 256 * m) (get_or-drop at s k 0) (number_drop n s at (k + 1) ∙ ap (number n s) next)

first_drop : (s : List ℕ) (at : ℕ) → get_or (drop at s) 0 0 ≡ get_or s at 0
first_drop s at = let here : at + 0 ≡ at = omega arith in get_or-drop at s 0 0 ∙ ap (λ (k : ℕ). get_or s k 0) here

pub variable_drop : (s : List ℕ) (at : ℕ) → variable_at (drop at s) 0 ≡ variable_at s at
unfolding variable_at
variable_drop s at = λ i.
    record {
      kind = first_drop s at i;
      label = get_or-drop at s 1 0 i;
      width = get_or-drop at s 2 0 i;
      addressWidth = get_or-drop at s 3 0 i;
      role = get_or-drop at s 4 0 i;
      spare = number_drop 3 s at 5 i;
    }

pub node_drop : (s : List ℕ) (at : ℕ) → node_at (drop at s) 0 ≡ node_at s at
unfolding node_at
node_drop s at = λ i.
    record {
      op = first_drop s at i;
      sub = get_or-drop at s 1 0 i;
      p = get_or-drop at s 2 0 i;
      q = get_or-drop at s 3 0 i;
      a = number_drop 4 s at 4 i;
      b = number_drop 4 s at 8 i;
      c = number_drop 4 s at 12 i;
    }

-- ------------------------------------------------------------------------------------------------
-- Variables that are alike, and nodes by their number

pub variable_copy :
    (i n : ℕ) (t : List ℕ) → i < n → variable_at (drop (8 * i) (flat_map variable_bytes (replicate n (immediate 8)) ++ t)) 0 ≡ immediate 8
unfolding variable_at variable_bytes flat_map
variable_copy i zero t h = absurd (not-suc-le-zero h)
variable_copy zero (suc n) t h = refl
variable_copy (suc i) (suc n) t h =
    let next : 8 * suc i ≡ 8 + 8 * i = omega arith in
    let all : List ℕ = flat_map variable_bytes (replicate (suc n) (immediate 8)) ++ t in
    ap (λ (at : ℕ). variable_at (drop at all) 0) next
    ∙ ap (λ (l : List ℕ). variable_at l 0) (sym (drop-drop (8 * i) 8 all))
    ∙ variable_copy i n t (omega arith)

-- n nodes from the one numbered k on
unfoldable pub from : (ℕ → Node) → ℕ → ℕ → List Node
from f k zero = []
from f k (suc n) = f k ∷ from f (suc k) n

two_bytes : (n : ℕ) → n % 256 + 256 * (n / 256 + 0) ≡ n
two_bytes n = omega arith

four_bytes : (n : ℕ) → n % 65536 % 256 + 256 * (n % 65536 / 256 + 256 * (n / 65536 % 256 + 256 * (n / 65536 / 256 + 0))) ≡ n
four_bytes n = omega arith

node_back : (r : Node) (t : List ℕ) → node_at (node_bytes r ++ t) 0 ≡ r
unfolding node_at node_bytes flat_map
node_back r t = λ i.
    record {
      op = r.op;
      sub = r.sub;
      p = r.p;
      q = r.q;
      a = four_bytes r.a i;
      b = four_bytes r.b i;
      c = four_bytes r.c i;
    }

pub node_from : (f : ℕ → Node) (k n i : ℕ) (t : List ℕ) → i < n → node_at (drop (16 * i) (flat_map node_bytes (from f k n) ++ t)) 0 ≡ f (k + i)
unfolding node_bytes flat_map from
node_from f k zero i t h = absurd (not-suc-le-zero h)
node_from f k (suc n) zero t h = let here : k ≡ k + 0 = omega arith in node_back (f k) (flat_map node_bytes (from f (suc k) n) ++ t) ∙ ap f here
node_from f k (suc n) (suc i) t h =
    let next : 16 * suc i ≡ 16 + 16 * i = omega arith in
    let there : suc k + i ≡ k + suc i = omega arith in
    let all : List ℕ = flat_map node_bytes (from f k (suc n)) ++ t in
    ap (λ (at : ℕ). node_at (drop at all) 0) next
    ∙ ap (λ (l : List ℕ). node_at l 0) (sym (drop-drop (16 * i) 16 all))
    ∙ node_from f (suc k) n i t (omega arith)
    ∙ ap f there

-- ------------------------------------------------------------------------------------------------
-- Where the sections of assembled bytes stand

pub length_from : (f : ℕ → Node) (k n : ℕ) → length (from f k n) ≡ n
unfolding from
length_from f k zero = refl
length_from f k (suc n) = ap suc (length_from f (suc k) n)

length-variables : (vs : List Variable) → length (flat_map variable_bytes vs) ≡ 8 * length vs
unfolding flat_map variable_bytes
length-variables [] = refl
length-variables (v ∷ vs) = let h = length-variables vs in omega arith

length-nodes : (rs : List Node) → length (flat_map node_bytes rs) ≡ 16 * length rs
unfolding flat_map node_bytes
length-nodes [] = refl
length-nodes (r ∷ rs) = let h = length-nodes rs in omega arith

module _ (width : ℕ) (vs : List Variable) (es ss : List Node) where
  pub behind_header :
      drop 32 (assembled width vs es ss) ≡ flat_map variable_bytes vs ++ (flat_map node_bytes es ++ flat_map node_bytes ss)
  unfolding assembled
  behind_header = refl

  pub behind_variables : drop (32 + 8 * length vs) (assembled width vs es ss) ≡ flat_map node_bytes es ++ flat_map node_bytes ss
  behind_variables =
      sym (drop-drop (8 * length vs) 32 (assembled width vs es ss))
      ∙ ap (drop (8 * length vs)) behind_header
      ∙ drop_at (flat_map variable_bytes vs) (flat_map node_bytes es ++ flat_map node_bytes ss) (8 * length vs) (length-variables vs)

  pub behind_expressions : drop (32 + 8 * length vs + 16 * length es) (assembled width vs es ss) ≡ flat_map node_bytes ss
  behind_expressions =
      sym (drop-drop (16 * length es) (32 + 8 * length vs) (assembled width vs es ss))
      ∙ ap (drop (16 * length es)) behind_variables
      ∙ drop_at (flat_map node_bytes es) (flat_map node_bytes ss) (16 * length es) (length-nodes es)

  pub length-assembled : length (assembled width vs es ss) ≡ 32 + 8 * length vs + 16 * length es + 16 * length ss
  unfolding assembled
  length-assembled =
      omega (
        arith,
        length-append (flat_map variable_bytes vs) (flat_map node_bytes es ++ flat_map node_bytes ss),
        length-append (flat_map node_bytes es) (flat_map node_bytes ss),
        length-variables vs,
        length-nodes es,
        length-nodes ss,
      )

  pub header_assembled : header (assembled width vs es ss) ≡ header_of width (length vs) (length es) (length ss)
  unfolding header header_of assembled
  header_assembled = λ i.
      record {
        format = 1;
        width = two_bytes width i;
        variables = four_bytes (length vs) i;
        variablesAt = 32;
        expressions = four_bytes (length es) i;
        expressionsAt = four_bytes (32 + 8 * length vs) i;
        statements = four_bytes (length ss) i;
        statementsAt = four_bytes (32 + 8 * length vs + 16 * length es) i;
        total = four_bytes (32 + 8 * length vs + 16 * length es + 16 * length ss) i;
      }
