-- No second text fits: of any bytes, one content of the buffer and one end. Assumes nothing.
use contract.Lifetimes.{Lfts}
use Rattle.base.specs.OneAnswer.{OneContent}
use Rattle.report.proofs.Unique.{held, one_text}
use Rattle.bilrun.proofs as bilrun

pub report_unique : (lent : Lfts 3) → OneContent (bilrun.report.Reads.Post lent) (λ s. held s.0.now)
report_unique lent a x y s t = one_text
