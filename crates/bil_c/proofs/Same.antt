-- The contract of each exported function is that of `bil`'s function of its name: it asks what that asks, and gives what that gives. So what
-- `promises` says of `bil`'s functions holds of what C calls. Assumes nothing.
use mathlib.Core.Path.{◌≡◌, refl}
use Rattle.bil.proofs as bil
use Rattle.bil_c.proofs as bil_c

pub bil_word_kind_asks : bil_c.bil_word_kind.Reads.Pre ≡ bil.bil_word_kind.Reads.Pre
bil_word_kind_asks = refl

pub bil_word_kind_gives : bil_c.bil_word_kind.Reads.Post ≡ bil.bil_word_kind.Reads.Post
bil_word_kind_gives = refl

pub bil_word_value_asks : bil_c.bil_word_value.Reads.Pre ≡ bil.bil_word_value.Reads.Pre
bil_word_value_asks = refl

pub bil_word_value_gives : bil_c.bil_word_value.Reads.Post ≡ bil.bil_word_value.Reads.Post
bil_word_value_gives = refl

pub bil_check_code_asks : bil_c.bil_check_code.Reads.Pre ≡ bil.bil_check_code.Reads.Pre
bil_check_code_asks = refl

pub bil_check_code_gives : bil_c.bil_check_code.Reads.Post ≡ bil.bil_check_code.Reads.Post
bil_check_code_gives = refl

pub bil_check_place_asks : bil_c.bil_check_place.Reads.Pre ≡ bil.bil_check_place.Reads.Pre
bil_check_place_asks = refl

pub bil_check_place_gives : bil_c.bil_check_place.Reads.Post ≡ bil.bil_check_place.Reads.Post
bil_check_place_gives = refl

pub bil_seal_code_asks : bil_c.bil_seal_code.Reads.Pre ≡ bil.bil_seal_code.Reads.Pre
bil_seal_code_asks = refl

pub bil_seal_code_gives : bil_c.bil_seal_code.Reads.Post ≡ bil.bil_seal_code.Reads.Post
bil_seal_code_gives = refl

pub bil_seal_place_asks : bil_c.bil_seal_place.Reads.Pre ≡ bil.bil_seal_place.Reads.Pre
bil_seal_place_asks = refl

pub bil_seal_place_gives : bil_c.bil_seal_place.Reads.Post ≡ bil.bil_seal_place.Reads.Post
bil_seal_place_gives = refl

pub bil_run_asks : bil_c.bil_run.Reads.Pre ≡ bil.bil_run.Reads.Pre
bil_run_asks = refl

pub bil_run_gives : bil_c.bil_run.Reads.Post ≡ bil.bil_run.Reads.Post
bil_run_gives = refl
