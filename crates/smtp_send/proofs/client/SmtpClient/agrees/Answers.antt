use Rattle.smtp_send.proofs.WireLemmas.{reads_other}
use Rattle.smtp_send.proofs.client.SmtpClient.agrees.Goals as goal

pub returns-in-Ok : goal.returns-in-Ok
returns-in-Ok g c = λ t passes.
    reads_other (g.P.SmtpPeer.passed c.next_reply.new.self.peer) c.next_reply.new.self.unread c.drop_front.new.self c.in-Ok.reply.count t c.drop_front.ensures (c.in-Ok.ensures.kept t passes)
