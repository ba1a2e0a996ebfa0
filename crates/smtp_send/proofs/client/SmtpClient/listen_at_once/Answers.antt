use Rattle.std.proofs.Common.{ℕ, List, ◌++◌, take, refl, sym, subst}
use Rattle.smtp_send.specs.Wires.{WirePasses}
use Rattle.smtp_send.proofs.WireLemmas.{came_more, count_at, forgets}
use Rattle.smtp_send.proofs.client.SmtpClient.listen_at_once.Goals as goal

pub returns-then-is_err : goal.returns-then-is_err
returns-then-is_err g c = λ t passes.
    let octets = take c.in-Ok-Some.count c.receive_at_once.new.piece in
    let unread = c.args.self.now.unread in
    let comes =
    count_at (λ count. (sent came : List ℕ) → g.P.SmtpPeer.passed c.args.self.now.peer sent came → g.P.SmtpPeer.passed c.receive_at_once.new.self sent (came ++ take count c.receive_at_once.new.piece))
    c.in-Ok-Some.field-0 c.in-Ok-Some.count c.in-Ok-Some.field-0-is c.in-Ok-Some.ensures.some in
    subst (λ u. WirePasses (g.P.SmtpPeer.passed c.receive_at_once.new.self) u t) (sym c.new.ensures)
    (forgets (g.P.SmtpPeer.passed c.receive_at_once.new.self) (unread ++ octets) t
    (came_more (g.P.SmtpPeer.passed c.args.self.now.peer) (g.P.SmtpPeer.passed c.receive_at_once.new.self) unread (unread ++ octets) octets t comes refl passes))
