use Rattle.smtp_send.proofs.WireLemmas.{reads_reply}
use Rattle.smtp_send.proofs.client.SmtpClientServer.hear.Goals as goal

pub returns-in-Ok-clause-ok : goal.returns-in-Ok-clause-ok
returns-in-Ok-clause-ok g c = λ t passes.
    reads_reply (g.P.SmtpPeer.passed c.next_reply.new.self.peer) c.next_reply.new.self.unread c.drop_front.new.self c.in-Ok.reply.count c.in-Ok.reply.code t c.in-Ok.ensures.first c.drop_front.ensures
    (c.in-Ok.ensures.kept t passes)
