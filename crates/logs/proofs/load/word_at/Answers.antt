-- The bytes read so far make the word so far, and the next stands at the address in hand. Assumes nothing.
use Rattle.std.proofs.Common.{◌/◌, ◌≤◌}
use Rattle.memory.specs.Log.{entries, chain, unknown_byte}
use Rattle.memory.specs.Access.{byte_at, loaded}
use Rattle.logs.proofs.JoinLaws.{reading_starts, reading_fits, reading_stops, reading_on, reading_ends, load_joined}
use Rattle.logs.proofs.load.word_at.Goals as goal

pub loop-i-init : goal.loop-i-init
loop-i-init c =
    let s = c.args in
    (c.requires.word.fits, reading_starts (chain (entries s.log.now s.count) s.head) s.w (s.z / 8) s.a s.big)

pub returns-then-b-ge-UNKNOWN_BYTE : goal.returns-then-b-ge-UNKNOWN_BYTE
unfolding loaded
returns-then-b-ge-UNKNOWN_BYTE c =
    let s = c.args in
    let l = c.loop-i in
    let cells = chain (entries s.log.now s.count) s.head in
    let unknown : unknown_byte ≤ byte_at cells l.at = rw (← c.byte_at-b.ensures) c.if-b-ge-UNKNOWN_BYTE.true in
    load_joined (entries s.log.now s.count) s.z s.big s.w s.head s.w s.a
    (reading_stops cells s.w (s.z / 8) s.a s.big l.invariant.1 c.loop-i-test.true unknown)

pub with_byte-v-requires-clause-v_bound : goal.with_byte-v-requires-clause-v_bound
with_byte-v-requires-clause-v_bound c =
    let s = c.args in
    reading_fits (chain (entries s.log.now s.count) s.head) s.w (s.z / 8) s.a s.big c.loop-i.invariant.1

pub loop-i-preserved : goal.loop-i-preserved
loop-i-preserved c =
    let s = c.args in
    let cells = chain (entries s.log.now s.count) s.head in
    let read = reading_on cells s.w (s.z / 8) s.a s.big c.loop-i.invariant.1 c.loop-i-test.true (rw c.byte_at-b.ensures at c.with_byte-v.ensures) in
    (c.above-at.ensures.fits, rw c.above-at.ensures.is read)

pub returns : goal.returns
unfolding loaded
returns c =
    let s = c.args in
    load_joined (entries s.log.now s.count) s.z s.big s.w s.head s.w s.a
    (reading_ends (chain (entries s.log.now s.count) s.head) s.w (s.z / 8) s.a s.big c.loop-i.invariant.1 c.loop-i-test.false)
