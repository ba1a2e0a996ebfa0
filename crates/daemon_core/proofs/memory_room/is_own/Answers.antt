use Rattle.std.proofs.Common.{◌≡◌, Some, arith, rules}
use Rattle.daemon_core.specs.MailRules.{lmtp_connection_at}
use Rattle.daemon_core.proofs.memory_room.is_own.Goals as goal

pub returns-in-Some-clause-has : goal.returns-in-Some-clause-has
returns-in-Some-clause-has c = λ yes.
    let was : lmtp_connection_at c.args.mail.now c.args.id ≡ Some c.in-Some.connection.now = search rules in
    (c.in-Some.connection.now, was, omega (arith, c.held.ensures, c.is_within.ensures.has yes))
