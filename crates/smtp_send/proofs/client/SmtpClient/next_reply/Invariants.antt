use Rattle.smtp_send.specs.Talks.{SendTalk}
use Rattle.smtp_send.specs.Wires.{WirePasses}
use Rattle.smtp_send.proofs.client.SmtpClient.next_reply.Given as goal

abbrev pub invariant-loop : goal.invariant-loop
invariant-loop g l = (t : SendTalk) → WirePasses (g.P.SmtpPeer.passed l.initial.self.peer) l.initial.self.unread t → WirePasses (g.P.SmtpPeer.passed l.self.peer) l.self.unread t
