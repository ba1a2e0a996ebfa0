use Rattle.std.proofs.Common.{rules}
use Rattle.mail_address.specs.Reading.{bare}
use Rattle.mail_address.proofs.Outbounds.{result-bare, result-bare_only}
use Rattle.mail_address.proofs.Spells.{result-bare_domain}
use Rattle.mail_address.proofs.outbound.bare_address.Goals as goal

pub returns-then-not-is_fit-clause-read : goal.returns-then-not-is_fit-clause-read
unfolding bare
returns-then-not-is_fit-clause-read c = search rules

pub returns-clause-read : goal.returns-clause-read
unfolding bare
returns-clause-read c = search rules

pub returns-clause-found : goal.returns-clause-found
returns-clause-found c = result-bare c.args.text.now c.addr_spec_only.result (returns-clause-read c)

pub returns-clause-only : goal.returns-clause-only
returns-clause-only c = result-bare_only c.args.text.now c.addr_spec_only.result (returns-clause-read c)

pub returns-clause-domain : goal.returns-clause-domain
returns-clause-domain c = result-bare_domain c.args.text.now c.addr_spec_only.result (returns-clause-found c)
