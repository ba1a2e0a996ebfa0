use Rattle.smtp_send.proofs.WireLemmas.{sent_more, other_front}
use Rattle.smtp_send.proofs.client.SmtpClient.say.Goals as goal

pub returns-in-Ok : goal.returns-in-Ok
returns-in-Ok g c = λ t passes.
    sent_more (g.P.SmtpPeer.passed c.args.self.now.peer) (g.P.SmtpPeer.passed c.send.new.self) c.args.self.now.unread c.args.octets.now t c.in-Ok.ensures.ok passes

pub returns-in-Err : goal.returns-in-Err
returns-in-Err g c = λ t passes.
    other_front (g.P.SmtpPeer.passed c.args.self.now.peer) (g.P.SmtpPeer.passed c.send.new.self) c.args.self.now.unread c.args.octets.now t c.in-Err.ensures.err passes
