use Rattle.std.proofs.Common.{◌++◌, take, refl, sym, subst}
use Rattle.smtp_send.specs.Wires.{WirePasses}
use Rattle.smtp_send.proofs.WireLemmas.{came_more, forgets}
use Rattle.smtp_send.proofs.client.SmtpClient.listen.Goals as goal

pub returns-then-is_err : goal.returns-then-is_err
returns-then-is_err g c = λ t passes.
    let octets = take c.in_ok-count.count c.receive.new.piece in
    let unread = c.args.self.now.unread in
    subst (λ u. WirePasses (g.P.SmtpPeer.passed c.receive.new.self) u t) (sym c.new.ensures)
    (forgets (g.P.SmtpPeer.passed c.receive.new.self) (unread ++ octets) t
    (came_more (g.P.SmtpPeer.passed c.args.self.now.peer) (g.P.SmtpPeer.passed c.receive.new.self) unread (unread ++ octets) octets t c.in_ok-count.ensures.ok refl passes))
