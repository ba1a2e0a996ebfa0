use Rattle.std.proofs.Common.{ap, arith}
use Rattle.std.specs.List.{list_any}
use Rattle.lmtp_dialogue.specs.Copies.{tells_delivery}
use Rattle.lmtp_dialogue.proofs.CopyLemmas.{any_here, any_later, any_none}
use Rattle.lmtp_dialogue.proofs.copy.was_delivered.Goals as goal

pub loop-field-init : goal.loop-field-init
loop-field-init c = ap (list_any (tells_delivery c.args.recipient.now)) c.fields-field-items.ensures

pub returns-then-branch : goal.returns-then-branch
returns-then-branch c =
    any_here c.args.recipient.now c.fields-field-items.result.now c.loop-field.field-index _ c.in_ok-tells_delivery.field-0 _ (omega (arith, c.loop-field-test.true))
    c.in_ok-tells_delivery.ensures c.if-branch.true c.loop-field.invariant

pub loop-field-preserved : goal.loop-field-preserved
loop-field-preserved c =
    any_later c.args.recipient.now c.fields-field-items.result.now c.loop-field.field-index _ c.in_ok-tells_delivery.field-0 _ (omega (arith, c.loop-field-test.true))
    c.in_ok-tells_delivery.ensures c.if-branch.false c.loop-field.invariant

pub returns : goal.returns
returns c = any_none c.args.recipient.now c.fields-field-items.result.now c.loop-field.field-index _ (omega (arith, c.loop-field-test.false)) c.loop-field.invariant
