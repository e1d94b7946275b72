-- What a good call is good for. Assumes nothing.
use Rattle.std.proofs.Common.{◌≡◌, true, ℕ, ◌^◌, leb, ltb, leb-true, ltb-true}
use Rattle.base.specs.Choice.{within}
use Rattle.base.proofs.BoolLaws.{and_left, and_right}
use Rattle.word.specs.Words.{AreWords}
use Rattle.bil.specs.WordCalls.{good}

pub good_words : (sub width a b : ℕ) → good sub width a b ≡ true → AreWords width a b
good_words sub width a b e =
    let w = and_right (within 1 19 sub) _ e in
    let l = and_left (within 1 64 width) _ w in
    let f = and_right (within 1 64 width) _ w in
    record {
      width = record { least = leb-true 1 width (and_left (leb 1 width) _ l); most = leb-true width 64 (and_right (leb 1 width) _ l) };
      left = ltb-true a (2 ^ width) (and_left (ltb a (2 ^ width)) _ f);
      right = ltb-true b (2 ^ width) (and_right (ltb a (2 ^ width)) _ f);
    }
