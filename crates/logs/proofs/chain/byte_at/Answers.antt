-- The walk: the byte from the entry that it has come to is the byte from the head. The measure is that entry's number: a previous
-- entry is lower. Assumes nothing.
use Rattle.std.proofs.Common.{◌≡◌, sym, ◌∙◌, arith}
use Rattle.logs.proofs.ChainLaws.{at_none, at_address, at_other, previous_lower}
use Rattle.logs.proofs.chain.byte_at.Goals as goal

pub loop-at-smaller : goal.loop-at-smaller
loop-at-smaller c =
    let l = c.loop-at in
    previous_lower c.requires.holds l.at c.args.address c.if-at-eq0.false l.invariant.0 c.entry_at-entry.ensures

pub loop-at-preserved : goal.loop-at-preserved
loop-at-preserved c =
    let l = c.loop-at in
    let some = c.if-at-eq0.false in
    let entry = c.entry_at-entry.ensures in
    let lower = previous_lower c.requires.holds l.at c.args.address some l.invariant.0 entry in
    let other : c.entry_at-entry.result.address ≡ c.args.address → ⊥ = c.if-entry-address.false in
    (omega arith, l.invariant.1 ∙ at_other c.requires.holds l.at c.args.address some l.invariant.0 entry other)

pub returns-then-at-eq0 : goal.returns-then-at-eq0
returns-then-at-eq0 c =
    let l = c.loop-at in
    sym (l.invariant.1 ∙ at_none c.requires.holds l.at c.args.address c.if-at-eq0.true)

pub returns-then-entry-address : goal.returns-then-entry-address
returns-then-entry-address c =
    let l = c.loop-at in
    let found : c.entry_at-entry.result.address ≡ c.args.address = c.if-entry-address.true in
    let entry = c.entry_at-entry.ensures in
    sym (l.invariant.1 ∙ at_address c.requires.holds l.at c.args.address c.if-at-eq0.false l.invariant.0 entry found)
