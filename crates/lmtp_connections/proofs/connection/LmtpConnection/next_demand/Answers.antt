use Rattle.std.proofs.Common.{inl, inr}
use Rattle.lmtp_connections.proofs.connection.LmtpConnection.next_demand.Goals as goal

pub returns-in-Need : goal.returns-in-Need
returns-in-Need c = λ p stands. inl (rw c.in-Need.is at c.next.ensures p.dialogue stands.holds.dialogue)

pub returns-in-Over : goal.returns-in-Over
returns-in-Over c = λ p stands. inr (rw c.in-Over.is at c.next.ensures p.dialogue stands.holds.dialogue)
