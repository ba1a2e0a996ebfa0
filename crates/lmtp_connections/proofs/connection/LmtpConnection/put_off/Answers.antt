use Rattle.lmtp_connections.proofs.ConnectionLemmas.{puts_off}
use Rattle.lmtp_connections.proofs.connection.LmtpConnection.put_off.Goals as goal

pub returns-clause-does : goal.returns-clause-does
returns-clause-does c = puts_off c.args.now c.resolve.result c.args.self.now c.resolve.new.self c.requires c.resolve.ensures.resolves
