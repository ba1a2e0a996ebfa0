use Rattle.std.proofs.Common.{sym}
use Rattle.mail_head.proofs.MessageLemmas.{read_some, read_none}
use Rattle.mail_head.proofs.message.read_header.Goals as goal

pub loop-rest-preserved-in_ok-push : goal.loop-rest-preserved-in_ok-push
loop-rest-preserved-in_ok-push c =
    read_some c.args.message.now c.loop-rest.fields.items _ c.loop-rest.rest.now _ _ c.in-Some-read_field.field
    c.loop-rest.invariant c.logical_line.ensures (sym c.in_default.ensures) c.in-Some-read_field.ensures c.in_ok-push.ensures.items

pub loop-rest-preserved : goal.loop-rest-preserved
loop-rest-preserved c =
    read_none c.args.message.now c.loop-rest.fields.items c.loop-rest.rest.now _ _
    c.loop-rest.invariant c.logical_line.ensures (sym c.in_default.ensures) c.in_default-read_field.ensures
