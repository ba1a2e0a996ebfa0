use Rattle.lmtp_connections.proofs.ConnectionLemmas.{replies_with}
use Rattle.lmtp_connections.proofs.connection.LmtpConnection.reply_noted.Goals as goal

pub returns-clause-does : goal.returns-clause-does
returns-clause-does c = replies_with c.args.now c.tell_noted.result c.args.self.now c.tell_noted.new.self c.take.new.self c.requires c.tell_noted.ensures.tells
