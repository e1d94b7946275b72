-- At a word the bytes are appended, else nothing is. Assumes nothing.
use Rattle.std.proofs.Common.{ap, subst}
use Rattle.value.specs.declared.Value.TheVariants.{Unknown}
use Rattle.memory.specs.Access as Access
use Rattle.memory.specs.Buffer.{held, room_of}
use Rattle.logs.specs.Storing.{Leaves}
use Rattle.logs.proofs.AddressedLaws.{memory_size}
use Rattle.logs.proofs.AppendLaws.{store_appends, store_elsewhere, leaves_all}
use Rattle.logs.proofs.store.store.Goals as goal

pub returns-in-Word : goal.returns-in-Word
returns-in-Word c =
    let s = c.args in
    let address = c.in-Word.is in
    subst (λ (x : Access.Stored). Leaves s.log.now x c.append.result c.append.new.log)
    (store_appends (room_of s.log.now) (held s.log.now) s.z s.big s.memory s.value address (memory_size c.requires.addressed address) c.head_of.ensures)
    c.append.ensures

pub returns-in_default : goal.returns-in_default
returns-in_default c =
    let s = c.args in
    leaves_all c.requires.holds.room
    (store_elsewhere (room_of s.log.now) (held s.log.now) s.z s.big s.memory s.value c.in_default.not-Word)
    (ap Unknown c.type_of.ensures)
