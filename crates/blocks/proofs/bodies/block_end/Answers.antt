-- `bodies::block_end`: the owner's first body where the statement stands before its end, its second body else. Assumes nothing.
use mathlib.Core.Path.{◌≡◌, sym, ap, ◌∙◌}
use Prim.Native.Nat.{suc, ◌-◌}
use native.Mathlib.Omega.{arith}
use Rattle.table.specs.declared.Header.{Header}
use Rattle.blocks.specs.Owners.{owner}
use Rattle.blocks.proofs.OwnerLaws.{outermost_end, first_body-end, second_body-end}
use Rattle.blocks.proofs.bodies.block_end.Goals as goal

pub returns-then-owner-eq0 : goal.returns-then-owner-eq0
returns-then-owner-eq0 c =
    ap (λ (h : Header). h.statements) c.args.frame.now.framed.is
    ∙ sym (outermost_end c.args.frame.now.bytes.now c.args.i (sym c.requires.owner_value ∙ c.if-owner-eq0.true))

pub returns-then-i-first : goal.returns-then-i-first
returns-then-i-first c =
    let is : owner c.args.frame.now.bytes.now c.args.i c.args.i ≡ suc (c.args.owner - 1) = omega (arith, c.if-owner-eq0.false, c.requires.owner_value) in
    let e = c.first_end-first.ensures.0 in
    e ∙ sym (first_body-end c.args.frame.now.bytes.now c.args.i (c.args.owner - 1) is (omega (arith, e, c.if-i-first.true)))

pub returns : goal.returns
returns c =
    let is : owner c.args.frame.now.bytes.now c.args.i c.args.i ≡ suc (c.args.owner - 1) = omega (arith, c.if-owner-eq0.false, c.requires.owner_value) in
    let e = c.first_end-first.ensures.0 in
    c.second_end.ensures
    ∙ sym (second_body-end c.args.frame.now.bytes.now c.args.i (c.args.owner - 1) is (omega (arith, e, c.if-i-first.false)))
