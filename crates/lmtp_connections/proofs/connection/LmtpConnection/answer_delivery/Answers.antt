use Rattle.lmtp_connections.proofs.ConnectionLemmas.{brings}
use Rattle.lmtp_connections.proofs.connection.LmtpConnection.answer_delivery.Goals as goal

pub returns-clause-does : goal.returns-clause-does
returns-clause-does c =
    brings c.args.now c.args.request.now c.args.became c.args.self.now c.set_became.new.self c.settled-self.result c.requires c.set_became.ensures.noted c.set_became.ensures.rest c.settled-self.ensures
