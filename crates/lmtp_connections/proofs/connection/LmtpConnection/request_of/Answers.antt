use Rattle.std.proofs.Common.{subst}
use Rattle.lmtp_connections.specs.Stands.{BecomesFor}
use Rattle.lmtp_connections.proofs.DemandLemmas.{requested}
use Rattle.lmtp_connections.proofs.connection.LmtpConnection.request_of.Goals as goal

pub returns : goal.returns
returns c =
    let becomes = BecomesFor c.args.now c.args.self.now c.args.addressee.now c.args.text.now in
    let due = subst becomes c.in-None.is c.in_ok-becomes.ensures c.args.sender.now c.requires.owes in
    let made = c.in_ok-request.ensures in
    requested c.args.now c.args.self.now c.args.addressee.now c.args.sender.now c.args.text.now due c.in_ok-request.request made.user made.sender made.recipient made.copy
