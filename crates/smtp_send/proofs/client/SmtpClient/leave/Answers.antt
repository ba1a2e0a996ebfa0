use Rattle.std.proofs.Common.{[], sym, subst}
use Rattle.smtp_send.specs.Wires.{WirePasses}
use Rattle.smtp_send.proofs.WireLemmas.{same, forgets}
use Rattle.smtp_send.proofs.client.SmtpClient.leave.Goals as goal

pub returns : goal.returns
returns g c = λ t passes.
    subst (λ u. WirePasses (g.P.SmtpPeer.passed c.disconnect.new.self) u t) (sym c.new.ensures)
    (same (g.P.SmtpPeer.passed c.args.self.now.peer) (g.P.SmtpPeer.passed c.disconnect.new.self) [] t c.disconnect.ensures.kept (forgets (g.P.SmtpPeer.passed c.args.self.now.peer) c.args.self.now.unread t passes))
