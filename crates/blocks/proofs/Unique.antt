-- No second answer fits: the contract of each public function leaves one result. Assumes nothing.
use denote.Ref.{MutBor}
use contract.Lifetimes.{Lfts}
use Rattle.std.proofs.Common.{◌≡◌, sym, ◌∙◌, List, ℕ}
use Rattle.base.specs.OneAnswer.{OneAnswer}
use Rattle.base.proofs.Unique.{is_unique}
use Rattle.blocks.specs.Room.{Zeros, OnZeros}
use Rattle.blocks.proofs as blocks

pub statements_unique : (lent : Lfts 2) → OneAnswer (blocks.statements.statements.Reads.Post lent)
statements_unique lent a x y s t = is_unique

pub bodies_unique : (lent : Lfts 2) → OneAnswer (blocks.bodies.second_end.Reads.Post lent)
bodies_unique lent a x y s t = is_unique

-- work that gives one answer on zeros, however many there are, gives one
pub with_zeros_once :
    {R : Type 0} {post : MutBor (List ℕ) → R → MutBor (List ℕ) → Type 0} {n : ℕ} {x y v : R}
    → ((lent left : MutBor (List ℕ)) (r : R) → Zeros n lent.now → post lent r left → r ≡ v)
    → OnZeros post n x → OnZeros post n y → x ≡ y
with_zeros_once once p q = once p.lent p.left _ p.room p.gives ∙ sym (once q.lent q.left _ q.room q.gives)
