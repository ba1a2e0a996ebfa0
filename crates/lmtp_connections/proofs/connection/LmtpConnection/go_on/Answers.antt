use Rattle.std.proofs.Common.{refl}
use Rattle.lmtp_connections.proofs.ConnectionLemmas.{goes_on}
use Rattle.lmtp_connections.proofs.connection.LmtpConnection.go_on.Goals as goal

pub returns-clause-goes : goal.returns-clause-goes
returns-clause-goes c =
    goes_on c.args.now c.args.self.now c.settle.new.self (record c.settle.new.self { comes = c.wanted_for-self.result }) c.next.result c.settle.ensures refl refl refl refl c.next.ensures
    c.wanted_for-self.ensures
