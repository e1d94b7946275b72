-- The label of an expression that breaks no rule. That `label_of` finds exactly what the rules of Sealing.antt give is proved (`label_decides`,
-- SealLaws; stated as `Decided` with the demands), so it needs no belief. Assumes nothing.
use Rattle.std.specs.Prelude.{Bool, true, false, not, ◌||◌, Option, Some, None, is_some}
use Rattle.table.specs.Decode.{Context}
use Rattle.table.specs.Syntax as S
use Rattle.table.specs.Syntax.{Expr}

-- what labelling finds: whether an expression is sealed, or nothing where a rule is broken in it or inside it
abbrev pub Label : Type 0
Label = Option Bool

-- whether what has a label may go to a place that is sealed (true) or open (false): a sealed one takes all but what leaks
unfoldable pub may_go : Bool → Label → Bool
may_go place None = false
may_go place (Some l) = not l || place

unfoldable pub when : Bool → Label → Label
when true o = o
when false o = None

-- "Any other node is sealed if an operand is."
unfoldable pub either : Label → Label → Label
either None o = None
either (Some l) None = None
either (Some l) (Some k) = Some (l || k)

-- "Refused: a load or store whose address is sealed"
unfoldable pub load_label : Label → Label → Label
unfolding when may_go
load_label m e = when (may_go false e) m

unfoldable pub store_label : Label → Label → Label → Label
unfolding when may_go either
store_label m e v = when (may_go false e) (either m v)

-- "A let has its body's label." Refused: "a let whose bound expression is sealed and whose variable is open"
unfoldable pub let_label : Bool → Label → Label → Label
unfolding when may_go
let_label variable e f = when (may_go variable e) f

-- "Words and unknowns are open. A variable has its declared label."
unfoldable pub label_of : Context → Expr → Label
unfolding either load_label store_label let_label
label_of Γ (S.var x) = Some (Γ.sealed x)
label_of Γ (S.word w v) = Some false
label_of Γ (S.load z big m e) = load_label (label_of Γ m) (label_of Γ e)
label_of Γ (S.store z big m e v) = store_label (label_of Γ m) (label_of Γ e) (label_of Γ v)
label_of Γ (S.binary sub e f) = either (label_of Γ e) (label_of Γ f)
label_of Γ (S.unary sub e) = label_of Γ e
label_of Γ (S.cast sub p e) = label_of Γ e
label_of Γ (S.lets x e f) = let_label (Γ.sealed x) (label_of Γ e) (label_of Γ f)
label_of Γ (S.unknown t) = Some false
label_of Γ (S.ite c e f) = either (label_of Γ c) (either (label_of Γ e) (label_of Γ f))
label_of Γ (S.extract p q e) = label_of Γ e
label_of Γ (S.concat e f) = either (label_of Γ e) (label_of Γ f)
label_of Γ S.bad = None

unfoldable pub has_label : Label → Bool
has_label = is_some
