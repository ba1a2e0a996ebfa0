use Rattle.lmtp_connections.proofs.ConnectionLemmas.{replies}
use Rattle.lmtp_connections.proofs.connection.LmtpConnection.reply.Goals as goal

pub returns-clause-does : goal.returns-clause-does
returns-clause-does c = replies c.args.now c.args.became c.tell.result c.args.self.now c.tell.new.self c.requires c.tell.ensures.tells
