use Rattle.mail_address.proofs.Outbounds.{bare-named, bare-found, bare-outbound}
use Rattle.mail_address.proofs.laws.address_without_display.Goals as goal

pub returns-clause-bare : goal.returns-clause-bare
returns-clause-bare c = λ text address. (bare-named text address, bare-found text address)

pub returns-clause-named : goal.returns-clause-named
returns-clause-named c = bare-outbound
