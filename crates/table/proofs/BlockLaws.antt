-- A block by its first statement: the statement's op, its bodies and what stands behind them are blocks by their own numbers. Assumes
-- nothing.
use mathlib.Core.Path.{◌≡◌, refl, sym, ◌∙◌, ap, ap₂}
use mathlib.Core.List.{List}
use Prim.Native.Nat.{ℕ, zero, suc, ◌+◌, ◌-◌, ◌≤◌, ◌<◌}
use native.Mathlib.Decide.{dec_le}
use native.Mathlib.Omega.{arith}
use lib.ListN.{get_or}
use Rattle.base.specs.Numbered.{numbered}
use Rattle.table.specs.Bytes.{header, statement}
use Rattle.table.specs.Decode.{expr, starters, starting_at, blocks, block_at}
use Rattle.table.specs.Syntax as S
use Rattle.table.specs.Syntax.{Block}

-- the list of the last k blocks stands at the end of each longer one
blocks_behind :
    (s : List ℕ) (k m all at : ℕ) → at + k ≡ all + m → k ≤ all
    → get_or (blocks s all) at (λ l. S.end) ≡ get_or (blocks s k) m (λ l. S.end)
unfolding blocks
blocks_behind s k m zero at e h =
    let p : at ≡ m = omega arith in
    let q : 0 ≡ k = omega arith in
    ap₂ (λ (k m : ℕ). get_or (blocks s k) m (λ l. S.end)) q p
blocks_behind s k m (suc all) zero e h =
    let p : 0 ≡ m = omega arith in
    let q : suc all ≡ k = omega arith in
    ap₂ (λ (k m : ℕ). get_or (blocks s k) m (λ l. S.end)) q p
blocks_behind s k m (suc all) (suc at) e h = go (dec_le k all) (λ l. blocks_behind s k m all at (omega arith) l)
  where
    go :
        Dec (k ≤ all) → (k ≤ all → get_or (blocks s all) at (λ l. S.end) ≡ get_or (blocks s k) m (λ l. S.end))
        → get_or (blocks s (suc all)) (suc at) (λ l. S.end) ≡ get_or (blocks s k) m (λ l. S.end)
    go (yes l) ih = ih l
    go (no l) ih =
        let p : suc at ≡ m = omega arith in
        let q : suc all ≡ k = omega arith in
        ap₂ (λ (k m : ℕ). get_or (blocks s k) m (λ l. S.end)) q p

module _ (s : List ℕ) (n l : ℕ) (inside : n < (header s).statements) where
  -- the first statement, with the blocks behind it
  pub block_first : block_at s n (suc l)
      ≡ numbered (λ r e n l on. S.end) starters (statement s n).op (statement s n) (expr s) n l (λ m. block_at s (suc n + m))
  unfolding block_at starting_at blocks
  block_first =
      let k : ℕ = (header s).statements - suc n in
      let here : (header s).statements - suc k ≡ n = omega arith in
      ap (λ (f : ℕ → Block). f (suc l)) (blocks_behind s (suc k) 0 (header s).statements n (omega arith) (omega arith))
      ∙ ap (λ (at : ℕ). starting_at s at (blocks s k) (suc l)) here
      ∙ ap (λ (on : ℕ → ℕ → Block). numbered (λ r e n l on. S.end) starters (statement s n).op (statement s n) (expr s) n l on)
      (λ i m. sym (blocks_behind s k m (header s).statements (suc n + m) (omega arith) (omega arith)) i)

  -- by its op
  abbrev first_by : ℕ → Block
  first_by k = numbered (λ r e n l on. S.end) starters k (statement s n) (expr s) n l (λ m. block_at s (suc n + m))

  abbrev on : ℕ → ℕ → Block
  on m = block_at s (suc n + m)

  pub block_move : (statement s n).op ≡ 1 → block_at s n (suc l) ≡ S.move n (statement s n).a (expr s (statement s n).b) (on 0 l)
  unfolding starters
  block_move e = block_first ∙ ap first_by e

  pub block_jmp : (statement s n).op ≡ 2 → block_at s n (suc l) ≡ S.jmp n (expr s (statement s n).a) (on 0 l)
  unfolding starters
  block_jmp e = block_first ∙ ap first_by e

  pub block_cpuexn : (statement s n).op ≡ 3 → block_at s n (suc l) ≡ S.cpuexn n (on 0 l)
  unfolding starters
  block_cpuexn e = block_first ∙ ap first_by e

  pub block_special : (statement s n).op ≡ 4 → block_at s n (suc l) ≡ S.special n (on 0 l)
  unfolding starters
  block_special e = block_first ∙ ap first_by e

  pub block_while : (statement s n).op ≡ 5
      → block_at s n (suc l) ≡ S.while n (expr s (statement s n).a) (on 0 (statement s n).b) (on (statement s n).b (l - (statement s n).b))
  unfolding starters
  block_while e = block_first ∙ ap first_by e

  pub block_if : (statement s n).op ≡ 6
      → block_at s n (suc l)
      ≡ S.if n (expr s (statement s n).a) (on 0 (statement s n).b) (on (statement s n).b (statement s n).c)
      (on ((statement s n).b + (statement s n).c) (l - ((statement s n).b + (statement s n).c)))
  unfolding starters
  block_if e = block_first ∙ ap first_by e

-- a block of no statements
none_at : (s : List ℕ) (k m : ℕ) → get_or (blocks s k) m (λ l. S.end) 0 ≡ S.end
unfolding blocks starting_at
none_at s zero m = refl
none_at s (suc k) zero = refl
none_at s (suc k) (suc m) = none_at s k m

pub block_none : (s : List ℕ) (n : ℕ) → block_at s n 0 ≡ S.end
unfolding block_at
block_none s n = none_at s (header s).statements n
