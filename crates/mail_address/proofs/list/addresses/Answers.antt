use Rattle.std.proofs.Common.{sym, ◌∙◌, subst, rules}
use Rattle.mail_address.specs.Parts.{AreAddresses}
use Rattle.mail_address.specs.Reading.{addrs}
use Rattle.mail_address.proofs.Lists.{addrs-are, addrs-only}
use Rattle.mail_address.proofs.Spells.{addresses-domain}
use Rattle.mail_address.proofs.list.addresses.Goals as goal

pub returns-clause-read : goal.returns-clause-read
unfolding addrs
returns-clause-read c = search rules

pub returns-clause-found : goal.returns-clause-found
returns-clause-found c = subst (AreAddresses c.args.value.now) (sym (returns-clause-read c)) (addrs-are c.args.value.now)

pub returns-clause-only : goal.returns-clause-only
returns-clause-only c = λ others are. addrs-only c.args.value.now others are ∙ sym (returns-clause-read c)

pub returns-clause-domains : goal.returns-clause-domains
returns-clause-domains c = addresses-domain c.args.value.now c.push_some.new.found.items (returns-clause-found c)
