use Rattle.std.proofs.Common.{refl}
use Rattle.lmtp_connections.proofs.ConnectionLemmas.{drops}
use Rattle.lmtp_connections.proofs.connection.LmtpConnection.drop_text.Goals as goal

pub returns-clause-keeps : goal.returns-clause-keeps
returns-clause-keeps c = drops c.args.self.now _ c.drop_text.ensures.stands c.drop_text.ensures.hello refl
