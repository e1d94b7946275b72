-- No second answer fits: the contract of each public function leaves one result, whatever the judgement. Assumes nothing.
use contract.Lifetimes.{Lfts}
use denote.RattleType.{RattleType}
use denote.Param.Laws.{Laws, IsCopy}
use mir.Syntax.{Dict}
use Rattle.std.specs.declared.clone.Clone as Clone
use Rattle.base.specs.OneAnswer.{OneAnswer}
use Rattle.base.proofs.Unique.{is_unique}
use Rattle.judging.specs.declared.Judgement as Judgement
use Rattle.judging.proofs as judging

pub judging_unique : (J Found : RattleType) (laws : Laws J) (found_laws : Laws Found) (copy : IsCopy Found) (ghosts : Judgement.Ghosts J.Denot Found.Denot)
    (methods : Dict) (clone : Clone.Ghosts Found.Denot) (clones : Dict) (lent : Lfts 4)
    → OneAnswer (judging.judged.Reads.Post J Found laws found_laws copy ghosts methods clone clones lent)
    × OneAnswer (judging.keeps.Reads.Post J Found laws found_laws copy ghosts methods clone clones lent)
judging_unique J Found laws found_laws copy ghosts methods clone clones lent = search is_unique
