use Rattle.std.proofs.Common.{◌≡◌, ◌∙◌, ap, refl}
use Rattle.lmtp_dialogue.specs.Replies.{lmtp_line_of}
use Rattle.lmtp_dialogue.specs.Turns.{lookup_reply}
use Rattle.lmtp_connections.specs.Connections.{first_form}
use Rattle.lmtp_connections.specs.declared.connection.LmtpConnection.{LmtpConnection as Code}
use Rattle.lmtp_connections.proofs.ConnectionLemmas.{resolves}
use Rattle.lmtp_connections.proofs.connection.LmtpConnection.resolve.Goals as goal

pub returns-clause-resolves : goal.returns-clause-resolves
returns-clause-resolves c =
    let s = c.args.self.now in
    let m : Code = record s { receiver = c.admit.new.self; progress = first_form s.progress } in
    let line : c.say_line.result ≡ lmtp_line_of (lookup_reply c.args.lookup) = c.say_line.ensures ∙ ap lmtp_line_of c.reply.ensures in
    resolves c.args.now c.args.lookup c.say_line.result c.admit.ensures.goes.0 s m c.go_on.new.self c.admit.ensures.goes.1 line c.admit.ensures.hello refl refl refl c.go_on.ensures.goes
