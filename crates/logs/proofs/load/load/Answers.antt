-- A word where both are known, else unknown. Assumes nothing.
use Rattle.std.proofs.Common.{sym, ◌∙◌, ap₂, arith}
use Rattle.memory.specs.Log.{entries}
use Rattle.memory.specs.Access.{load}
use Rattle.memory.proofs.LogLaws.{length-entries}
use Rattle.logs.proofs.AddressedLaws.{head_most, load_unknown, load_yields}
use Rattle.logs.proofs.load.load.Goals as goal

pub word_at-requires-clause-head_le_count : goal.word_at-requires-clause-head_le_count
word_at-requires-clause-head_le_count c =
    let most = head_most c.requires.addressed c.in-Memory-Word.is-0 in
    let n = length-entries c.args.log.now c.args.count in
    let same = c.in-Memory-Word.head-is in
    omega arith

pub returns-in-Memory-Word : goal.returns-in-Memory-Word
unfolding load
returns-in-Memory-Word c =
    let s = c.args in
    load_yields (entries s.log.now s.count) s.z s.big s.memory s.address c.requires.size_ok
    (c.word_at.ensures ∙ sym (ap₂ (load (entries s.log.now s.count) s.z s.big) c.in-Memory-Word.is-0 c.in-Memory-Word.is-1))

pub returns-in_default : goal.returns-in_default
returns-in_default c =
    let s = c.args in
    load_yields (entries s.log.now s.count) s.z s.big s.memory s.address c.requires.size_ok
    (load_unknown (entries s.log.now s.count) s.z s.big s.memory s.address (λ w head v x p q. c.in_default.not-Word-1 v x q))

pub returns-in_default-2 : goal.returns-in_default-2
returns-in_default-2 c =
    let s = c.args in
    load_yields (entries s.log.now s.count) s.z s.big s.memory s.address c.requires.size_ok
    (load_unknown (entries s.log.now s.count) s.z s.big s.memory s.address (λ w head v x p q. c.in_default.not-Memory-0 w head p))
