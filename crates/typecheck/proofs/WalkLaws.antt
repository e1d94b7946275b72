-- A walk from an expression down through its operands, whatever it looks for: what it knows of an expression whose record it has read, and what
-- it may ask of the operands. That what it makes of their results is the expression's is judging's. Assumes nothing.
use Rattle.std.proofs.Common.{◌≡◌, List, ℕ, ◌+◌, ◌≤◌, ◌<◌, subst, sym, arith}
use Rattle.table.specs.declared.Header.{Header}
use Rattle.table.specs.declared.Node.{Node}
use Rattle.table.specs.Bytes.{header, expression}
use Rattle.table.specs.Fields.{operands, expression_row}
use Rattle.table.specs.Records.{Framed, RecordsHold}
use Rattle.forest.specs.declared.operands.Operands.{Operands}
use Rattle.forest.specs.declared.operands.Operands.TheVariants.{One, Two, Three}
use Rattle.forest.specs.Counting.{listed}
use Rattle.judging.proofs.WalkLaws.{one_lower, two_lower, three_lower, leaf_variable, let_variable, bits_down, bits_few}
use Rattle.typecheck.proofs.NamedLaws.{Asked}

-- ------------------------------------------------------------------------------------------------
-- What is known

-- expression i is asked for, its number is the measure, and the header, its record and its operands were read
pub record Read (s : List ℕ) (measure i : ℕ) (h : Header) (r : Node) (o : Operands) : Type 0 where
  pub asked : (i ≡ measure) × Asked s i
  pub head : h ≡ header s
  pub is : r ≡ expression s i
  pub names : listed o ≡ operands (expression_row r) r

-- the same, of a call that the walk has come to by what each step promised
pub known : (t : ℕ) {s : List ℕ} {i : ℕ} {h : Header} {r : Node} {o : Operands} → i ≡ t → Framed s (header s) → RecordsHold s
    → i < (header s).expressions → h ≡ header s → r ≡ expression s i → listed o ≡ operands (expression_row r) r → Read s t i h r o
known t e framed hold inside head is names =
    record { asked = (e, (framed, (hold, inside))); head = head; is = is; names = names }

-- what reading the record asks when the header was read
pub record_asked : {s : List ℕ} {i : ℕ} {h : Header} → Asked s i → h ≡ header s → Framed s h × (i < h.expressions)
record_asked {s} {i} a e = (subst (Framed s) (sym e) a.0, subst (λ (h : Header). i < h.expressions) (sym e) a.1.1)

module _ {s : List ℕ} {measure i : ℕ} {h : Header} {r : Node} {o : Operands} (m : Read s measure i h r o) where
  framed : Framed s h
  framed = (record_asked m.asked.1 m.head).0

  abbrev hold : RecordsHold s
  hold = m.asked.1.1.0

  abbrev inside : i < (header s).expressions
  inside = m.asked.1.1.1

  -- ----------------------------------------------------------------------------------------------
  -- What it may ask

  below : (k : ℕ) → k < i → (k < measure) × Asked s k
  below k l = let n = inside in (omega (arith, m.asked.0), (m.asked.1.0, (hold, omega arith)))

  pub one_asked : {a : ℕ} → o ≡ One a → (a < measure) × Asked s a
  one_asked {a} e = below a (one_lower hold inside m.is m.names e)

  pub two_asked : {a b : ℕ} → o ≡ Two a b → ((a < measure) × Asked s a) × ((b < measure) × Asked s b)
  two_asked {a} {b} e = let l = two_lower hold inside m.is m.names e in (below a l.0, below b l.1)

  pub three_asked : {a b c : ℕ} → o ≡ Three a b c
      → ((a < measure) × Asked s a) × (((b < measure) × Asked s b) × ((c < measure) × Asked s c))
  three_asked {a} {b} {c} e = let l = three_lower hold inside m.is m.names e in (below a l.0, (below b l.1.0, below c l.1.1))

  pub leaf_asked : Framed s h × (r.op ≡ 1 → r.a < h.variables)
  leaf_asked = (framed, rw m.head (leaf_variable hold inside m.is))

  pub bits_asked : (r.op ≡ 11 → r.q ≤ r.p) × (r.op ≡ 11 → r.p ≤ r.q + 63)
  bits_asked = (bits_down hold inside m.is, bits_few hold inside m.is)

  pub let_asked : Framed s h × (r.op ≡ 8 → r.a < h.variables)
  let_asked = (framed, rw m.head (let_variable hold inside m.is))
