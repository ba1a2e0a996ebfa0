use Rattle.std.proofs.Common.{refl}
use Rattle.lmtp_dialogue.specs.declared.recipient_reply.RecipientReply.{RecipientReply}
use Rattle.lmtp_dialogue.specs.declared.recipient_reply.RecipientReply.TheVariants.{Refused}
use Rattle.lmtp_dialogue.specs.declared.reply.LmtpReply.TheVariants.{Done}
use Rattle.lmtp_connections.specs.declared.connection.LmtpConnection.{LmtpConnection as Code}
use Rattle.lmtp_connections.proofs.ConnectionLemmas.{tells}
use Rattle.lmtp_connections.proofs.connection.LmtpConnection.tell.Goals as goal

pub returns-clause-tells : goal.returns-clause-tells
returns-clause-tells c =
    let s = c.args.self.now in
    let any : RecipientReply = Refused Done in
    let m : Code = record s { receiver = c.pass.new.self } in
    tells c.args.now c.args.became c.say-lines.result (c.pass.ensures.goes any).0 any s m c.note_became.new.self c.go_on.new.self (c.pass.ensures.goes any).1 c.say-lines.ensures c.pass.ensures.hello refl refl refl
    c.note_became.ensures.noted c.note_became.ensures.counted c.note_became.ensures.receiver c.note_became.ensures.names c.go_on.ensures.goes
