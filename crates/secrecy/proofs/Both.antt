-- Two evaluations side by side: both give a value or both make the same stop, their logs have as many entries, and an open value is
-- the same. Assumes nothing.
use mathlib.Core.Path.{◌≡◌}
use mathlib.Core.Bool.{Bool, false}
use Rattle.base.specs.declared.codes.Stop.{Stop}
use Rattle.value.specs.declared.Value.{Value}
use Rattle.memory.specs.Log.{Log}
use Rattle.evaluation.specs.Evaluation.{Evaluated, value, stopped, ◌and_then◌}
use Rattle.secrecy.proofs.Same.{Same, Onward, here, onward_trans}

pub data Both (sealed : Bool) (L M : Log) : Evaluated → Evaluated → Type 0 where
  both_value : {u v : Value} {L' M' : Log} → Onward L M L' M' → (sealed ≡ false → Same L' M' u v) → Both sealed L M (value u L') (value v M')
  both_stopped : {code : Stop} {L' M' : Log} → Onward L M L' M' → Both sealed L M (stopped code L') (stopped code M')

pub both_after : {l : Bool} {K N L M : Log} {r s : Evaluated} → Onward K N L M → Both l L M r s → Both l K N r s
both_after o (both_value p h) = both_value (onward_trans o p) h
both_after o (both_stopped p) = both_stopped (onward_trans o p)

pub both_then : {l k : Bool} {L M : Log} {r s : Evaluated} {f g : Value → Log → Evaluated} → Both l L M r s
    → ((u v : Value) (L' M' : Log) → Onward L M L' M' → (l ≡ false → Same L' M' u v) → Both k L' M' (f u L') (g v M'))
    → Both k L M (r and_then f) (s and_then g)
unfolding ◌and_then◌
both_then (both_value o h) on = both_after o (on _ _ _ _ o h)
both_then (both_stopped o) on = both_stopped o

-- a value at once
pub both_here : {l : Bool} {L M L' M' : Log} {u v : Value} → Onward L M L' M' → (l ≡ false → Same L' M' u v) → Both l L' M' (value u L') (value v M')
both_here o h = both_value (here o.counts) h
