use Rattle.std.proofs.Common.{subst}
use Rattle.lmtp_connections.specs.Stands.{BecomesFor}
use Rattle.lmtp_connections.proofs.DemandLemmas.{demanded}
use Rattle.lmtp_connections.proofs.connection.LmtpConnection.demand_by.Goals as goal

pub returns-in-Some : goal.returns-in-Some
returns-in-Some c =
    let becomes = BecomesFor c.args.now c.args.self.now c.args.addressee.now c.args.text.now in
    subst becomes c.in-Some.is c.in_ok-became.ensures c.args.sender.now c.requires.owes

pub returns-in-None : goal.returns-in-None
returns-in-None c =
    let becomes = BecomesFor c.args.now c.args.self.now c.args.addressee.now c.args.text.now in
    demanded c.args.now c.args.self.now c.args.addressee.now c.args.sender.now c.args.text.now (subst becomes c.in-None.is c.in_ok-became.ensures c.args.sender.now c.requires.owes)
