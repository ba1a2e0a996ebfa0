use Rattle.mail_address.proofs.Lists.{addrs-are, addrs-only}
use Rattle.mail_address.proofs.laws.addresses_of_a_value.Goals as goal

pub returns-clause-found : goal.returns-clause-found
returns-clause-found c = addrs-are

pub returns-clause-only : goal.returns-clause-only
returns-clause-only c = addrs-only
