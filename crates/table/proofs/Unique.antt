-- No second answer fits: the contract of each public function leaves one result. Assumes nothing.
use Rattle.std.proofs.Common.{◌≡◌, sym, ap, subst, ◌∙◌, ℕ, Bor}
use Rattle.std.specs.Prelude.{Result, Ok, IfOk, List}
use contract.Lifetimes.{Lfts}
use Rattle.base.specs.declared.Refusal.{Refusal}
use Rattle.base.specs.OneAnswer.{OneAnswer}
use Rattle.base.specs.Refusals.{answer_of}
use Rattle.base.proofs.Unique.{is_unique}
use Rattle.table.specs.declared.Header.{Header}
use Rattle.table.specs.declared.read.Frame.{Frame}
use Rattle.table.specs.Bytes.{header}
use Rattle.table.proofs as table

pub header_unique : (lent : Lfts 1) → OneAnswer (table.bytes.header.Reads.Post lent)
header_unique lent a x y s t = is_unique

pub word_value_unique : OneAnswer (table.bytes.word_value.Reads.Post tt)
word_value_unique a x y s t = is_unique

pub records_unique : (lent : Lfts 2) →
    OneAnswer (table.read.Frame.variable.Reads.Post lent)
    × OneAnswer (table.read.Frame.expression.Reads.Post lent)
    × OneAnswer (table.read.Frame.statement.Reads.Post lent)
records_unique lent = search is_unique

-- frames of the same bytes have the same header
pub frame_unique : (f g : Frame) → f.bytes ≡ g.bytes → f.header ≡ g.header
frame_unique f g same = f.framed.is ∙ ap (λ b. header b.now) same ∙ sym g.framed.is

read_bytes : {w : Bor (List ℕ)} (r : Result Frame Refusal) (f : Frame) → IfOk r (λ k. k.bytes ≡ w) → r ≡ Ok f → f.bytes ≡ w
read_bytes {w} r f h e = subst (λ (o : Result Frame Refusal). IfOk o (λ k. k.bytes ≡ w)) e h

pub read_unique :
    (lent : Lfts 1) (a : _) (x y : _) (s t : _) → table.read.Frame.read.Reads.Post lent a x s → table.read.Frame.read.Reads.Post lent a y t
    → (answer_of x ≡ answer_of y) × ((f g : Frame) → x ≡ Ok f → y ≡ Ok g → f.bytes ≡ g.bytes)
read_unique lent a x y s t p q = (is_unique p.0 q.0, λ f g e d. is_unique (read_bytes x f p.1 e) (read_bytes y g q.1 d))
