use Rattle.lmtp_connections.proofs.ConnectionLemmas.{awaits}
use Rattle.lmtp_connections.proofs.connection.LmtpConnection.await_store.Goals as goal

pub returns-clause-does : goal.returns-clause-does
returns-clause-does c = awaits c.args.now c.args.self.now c.away-self.result c.requires c.away-self.ensures
