-- The bytes so far stand in the buffer, and those to come, appended to the log that it holds, make the whole store. Assumes nothing.
use Rattle.memory.specs.Access.{bytes_in}
use Rattle.logs.proofs.AppendLaws.{appending_starts}
use Rattle.logs.proofs.store.append.Goals as goal

pub loop-i-init : goal.loop-i-init
loop-i-init c =
    let s = c.args in
    (c.requires.word.fits, appending_starts s.log.now s.w (bytes_in s.z s.big s.value) s.head s.a c.requires.count_in_bounds)
