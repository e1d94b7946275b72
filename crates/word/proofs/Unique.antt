-- No second answer fits: the contract of each public function leaves one result. Assumes nothing.
use Rattle.std.proofs.Common.{◌≡◌, ℕ, Option}
use Rattle.base.specs.OneAnswer.{OneAnswer}
use Rattle.base.proofs.Unique.{is_unique}
use Rattle.word.specs.Words.{Gives, Computes}
use Rattle.word.proofs as word

-- ------------------------------------------------------------------------------------------------
-- The two kinds of promise that are no mere equation

pub gives_unique : {w v x y : ℕ} → Gives w v x → Gives w v y → x ≡ y
gives_unique p q = is_unique p.is q.is

pub computes_unique : {w : ℕ} {v x y : Option ℕ} → Computes w v x → Computes w v y → x ≡ y
computes_unique p q = is_unique p.is q.is

-- ------------------------------------------------------------------------------------------------
-- Each function's own contract

pub width_unique :
    OneAnswer (word.width.mask.Reads.Post tt)
    × OneAnswer (word.width.trim.Reads.Post tt)
    × OneAnswer (word.width.sign_bit.Reads.Post tt)
    × OneAnswer (word.width.negative.Reads.Post tt)
    × OneAnswer (word.width.fits.Reads.Post tt)
width_unique = (λ a x y s t. is_unique, λ a x y s t. gives_unique, λ a x y s t. is_unique, λ a x y s t. is_unique, λ a x y s t. is_unique)

pub arithmetic_unique :
    OneAnswer (word.arithmetic.plus.Reads.Post tt)
    × OneAnswer (word.arithmetic.minus.Reads.Post tt)
    × OneAnswer (word.arithmetic.times.Reads.Post tt)
    × OneAnswer (word.arithmetic.neg.Reads.Post tt)
arithmetic_unique = search gives_unique

pub bits_unique :
    OneAnswer (word.bits.and.Reads.Post tt)
    × OneAnswer (word.bits.or.Reads.Post tt)
    × OneAnswer (word.bits.xor.Reads.Post tt)
    × OneAnswer (word.bits.not.Reads.Post tt)
bits_unique = search gives_unique

pub shift_unique :
    OneAnswer (word.shift.lsl.Reads.Post tt)
    × OneAnswer (word.shift.lsr.Reads.Post tt)
    × OneAnswer (word.shift.asr.Reads.Post tt)
shift_unique = search gives_unique

pub compare_unique :
    OneAnswer (word.compare.eq.Reads.Post tt)
    × OneAnswer (word.compare.neq.Reads.Post tt)
    × OneAnswer (word.compare.lt.Reads.Post tt)
    × OneAnswer (word.compare.le.Reads.Post tt)
    × OneAnswer (word.compare.slt.Reads.Post tt)
    × OneAnswer (word.compare.sle.Reads.Post tt)
compare_unique = search gives_unique

pub division_unique :
    OneAnswer (word.division.div.Reads.Post tt)
    × OneAnswer (word.division.modulo.Reads.Post tt)
    × OneAnswer (word.division.sdiv.Reads.Post tt)
    × OneAnswer (word.division.smod.Reads.Post tt)
division_unique = search computes_unique

pub casts_unique :
    OneAnswer (word.casts.low.Reads.Post tt)
    × OneAnswer (word.casts.high.Reads.Post tt)
    × OneAnswer (word.casts.signed.Reads.Post tt)
    × OneAnswer (word.casts.unsigned.Reads.Post tt)
casts_unique = search gives_unique

pub join_unique :
    OneAnswer (word.join.extract.Reads.Post tt)
    × OneAnswer (word.join.concat.Reads.Post tt)
join_unique = search gives_unique

pub subs_unique :
    OneAnswer (word.binary.Reads.Post tt)
    × OneAnswer (word.unary.Reads.Post tt)
    × OneAnswer (word.cast.Reads.Post tt)
subs_unique = search computes_unique
