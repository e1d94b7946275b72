-- Blocks that break no seal rule. Assumes nothing.
use Rattle.table.specs.Decode.{Context}
use Rattle.table.specs.Syntax.{Block, ◌then◌}
use Rattle.sealing.specs.Sealing.{Clean, S-END, S-MOVE, S-JMP, S-CPUEXN, S-SPECIAL, S-WHILE, S-IF}

-- one clean block and then another
pub clean_then : {Γ : Context} {b k : Block} → Clean Γ b → Clean Γ k → Clean Γ (b then k)
unfolding ◌then◌
clean_then S-END c = c
clean_then (S-MOVE s h d) c = S-MOVE s h (clean_then d c)
clean_then (S-JMP s d) c = S-JMP s (clean_then d c)
clean_then (S-CPUEXN d) c = S-CPUEXN (clean_then d c)
clean_then (S-SPECIAL d) c = S-SPECIAL (clean_then d c)
clean_then (S-WHILE s b d) c = S-WHILE s b (clean_then d c)
clean_then (S-IF s b e d) c = S-IF s b e (clean_then d c)
