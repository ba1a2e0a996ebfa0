use Rattle.std.proofs.Common.{◌≡◌, ◌∙◌, ap, refl, length}
use Rattle.lmtp_connections.specs.Stands.{is_sending_at}
use Rattle.lmtp_connections.specs.Progress.{progress_heard}
use Rattle.lmtp_connections.specs.declared.connection.LmtpConnection.{LmtpConnection as Code}
use Rattle.lmtp_connections.proofs.ConnectionLemmas.{hears}
use Rattle.lmtp_connections.proofs.connection.LmtpConnection.hear.Goals as goal

pub returns-clause-hears : goal.returns-clause-hears
returns-clause-hears c =
    let s = c.args.self.now in
    let e : Code = record s { receiver = c.give.new.self; comes = c.wanted_for-self.result; progress = c.heard-self.result } in
    let sending : c.is_sending-sending.result ≡ is_sending_at s.receiver.talk.stage = c.is_sending-sending.ensures ∙ ap is_sending_at c.stage.ensures in
    let progress : c.heard-self.result ≡ progress_heard c.args.now (is_sending_at s.receiver.talk.stage) (length c.args.piece.now) s.progress =
    c.heard-self.ensures ∙ (ap (λ b. progress_heard c.args.now b (length c.args.piece.now) s.progress) sending) in
    hears c.args.now c.args.piece.now s e c.next.result refl c.in_ok-give.ensures.hears c.give.ensures.hello refl progress c.next.ensures c.wanted_for-self.ensures
