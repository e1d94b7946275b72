-- A record tested field by field against the row of its op. Assumes nothing.
use mathlib.Core.Path.{◌≡◌, sym, ap, ap₂, ◌∙◌}
use mathlib.Core.Bool.{Bool, false, ◌&&◌, and-false}
use mathlib.Core.List.{List}
use Prim.Native.Nat.{ℕ}
use Rattle.base.specs.Numbered.{numbered}
use Rattle.table.specs.declared.Node.{Node}
use Rattle.table.specs.Fields.{Row, no_row, expression_rows, expression_row}
use Rattle.table.specs.Records.{field_ok, record_ok}

-- the row of a number; at a literal it computes
abbrev pub row_at : ℕ → Row
row_at k = numbered no_row expression_rows k

both : {a b c d : Bool} → a ≡ c → b ≡ d → (a && b) ≡ (c && d)
both p q = ap₂ (λ (a b : Bool). a && b) p q

-- the tests of the fields of a record of op k, in their order, are what its row asks
pub by_row :
    (s : List ℕ) (i k : ℕ) (n : Node) → n.op ≡ k → {x sub p q a b c also : Bool}
    → x ≡ (sub && (p && (q && (a && (b && (c && also)))))) → sub ≡ field_ok s i (row_at k).sub n.sub
    → p ≡ field_ok s i (row_at k).p n.p → q ≡ field_ok s i (row_at k).q n.q → a ≡ field_ok s i (row_at k).a n.a
    → b ≡ field_ok s i (row_at k).b n.b → c ≡ field_ok s i (row_at k).c n.c → also ≡ (row_at k).also n
    → x ≡ record_ok s i (expression_row n) n
unfolding record_ok expression_row
by_row s i k n e x sub p q a b c also =
    x ∙ both sub (both p (both q (both a (both b (both c also))))) ∙ ap (λ (j : ℕ). record_ok s i (row_at j) n) (sym e)

-- no record is one of an op that has no row
pub no_record : (s : List ℕ) (i : ℕ) (n : Node) → row_at n.op ≡ no_row → record_ok s i (expression_row n) n ≡ false
unfolding record_ok expression_row field_ok
no_record s i n e = ap (λ (f : Row). record_ok s i f n) e ∙ simp and-false
