use Rattle.std.proofs.Common.{◌≡◌, ◌∙◌, refl, ap, subst}
use Rattle.std.specs.Prelude.{IfSome}
use Rattle.lmtp_dialogue.specs.declared.recipient_reply.RecipientReply.{RecipientReply}
use Rattle.lmtp_dialogue.specs.declared.recipient_reply.RecipientReply.TheVariants.{Refused}
use Rattle.lmtp_dialogue.specs.declared.reply.LmtpReply.TheVariants.{Done}
use Rattle.lmtp_dialogue.specs.RecipientReplies.{recipient_lines}
use Rattle.lmtp_connections.specs.declared.connection.LmtpConnection.{LmtpConnection as Code}
use Rattle.lmtp_connections.proofs.ConnectionLemmas.{noted_again, tells}
use Rattle.lmtp_connections.proofs.connection.LmtpConnection.tell_noted.Goals as goal

pub returns-clause-tells : goal.returns-clause-tells
returns-clause-tells c = λ became is.
    let s = c.args.self.now in
    let any : RecipientReply = Refused Done in
    let m : Code = record s { receiver = c.pass.new.self } in
    let n = c.pass_recipient.new.self in
    let line : c.say_noted-lines.result ≡ recipient_lines became = subst (λ o. IfSome o (λ b. c.say_noted-lines.result ≡ recipient_lines b)) is c.say_noted-lines.ensures in
    tells c.args.now became c.say_noted-lines.result (c.pass.ensures.goes any).0 any s m n c.go_on.new.self (c.pass.ensures.goes any).1 line c.pass.ensures.hello refl refl refl
    (λ before after it items count. ap (λ (x : Code). x.addressees.items) c.pass_recipient.ensures.rest ∙ noted_again m before after it items count became is)
    c.pass_recipient.ensures.counted (ap (λ (x : Code). x.receiver) c.pass_recipient.ensures.rest) (ap (λ (x : Code). x.names) c.pass_recipient.ensures.rest) c.go_on.ensures.goes
