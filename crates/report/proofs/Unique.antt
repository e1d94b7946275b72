-- No second answer fits: each public function leaves one text, that is one content of the buffer and one end. Assumes nothing.
use Rattle.std.proofs.Common.{◌≡◌, ap₂, List, ℕ}
use contract.Lifetimes.{Lfts}
use Rattle.base.specs.OneAnswer.{OneContent}
use Rattle.base.proofs.Unique.{is_unique}
use Rattle.report.specs.declared.text.Text.{Text}
use Rattle.report.specs.Placed.{Puts}
use Rattle.report.proofs as report

-- what the buffer holds, and where the text ends
abbrev pub held : Text → List ℕ × ℕ
held t = (t.buffer.now, t.end)

pub one_text : {p : ℕ} {a b c : Text} {t : List ℕ} → Puts p a t b → Puts p a t c → held b ≡ held c
one_text f g = ap₂ (λ (l : List ℕ) (n : ℕ). (l, n)) (is_unique f.is g.is) (is_unique f.end g.end)

pub add_unique : (lent : Lfts 3) → OneContent (report.text.Text.add.Reads.Post lent) (λ s. held s.0.now)
add_unique lent a x y s t = one_text

pub number_unique : (lent : Lfts 2) → OneContent (report.text.Text.number.Reads.Post lent) (λ s. held s.0.now)
number_unique lent a x y s t = one_text

pub field_unique : (lent : Lfts 2) → OneContent (report.text.Text.field.Reads.Post lent) (λ s. held s.0.now)
field_unique lent a x y s t = one_text

pub answer_line_unique : (lent : Lfts 3) → OneContent (report.lines.answer_line.Reads.Post lent) (λ s. held s.0.now)
answer_line_unique lent a x y s t = one_text

pub run_line_unique : (lent : Lfts 2) → OneContent (report.lines.run_line.Reads.Post lent) (λ s. held s.0.now)
run_line_unique lent a x y s t = one_text

pub variable_lines_unique : (lent : Lfts 5) → OneContent (report.lines.variable_lines.Reads.Post lent) (λ s. held s.0.now)
variable_lines_unique lent a x y s t = one_text
