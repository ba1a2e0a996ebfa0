use Rattle.smtp_send.proofs.WireLemmas.{message_more, message_front}
use Rattle.smtp_send.proofs.client.SmtpClientServer.write.Goals as goal

pub returns-in-Ok-clause-ok : goal.returns-in-Ok-clause-ok
returns-in-Ok-clause-ok g c = λ t passes.
    message_more (g.P.SmtpPeer.passed c.args.self.now.peer) (g.P.SmtpPeer.passed c.send.new.self) c.args.self.now.unread c.args.octets.now t c.in-Ok.ensures.ok passes

pub returns-in-Err-clause-err : goal.returns-in-Err-clause-err
returns-in-Err-clause-err g c = λ t passes.
    let it = message_front (g.P.SmtpPeer.passed c.args.self.now.peer) (g.P.SmtpPeer.passed c.send.new.self) c.args.self.now.unread c.args.octets.now t c.in-Err.ensures.err passes in
    (it.0, c.leave.ensures it.0 it.1, it.2)
