use Rattle.std.proofs.Common.{rules}
use Rattle.mail_address.specs.Reading.{outbound}
use Rattle.mail_address.proofs.Outbounds.{result-named, result-only}
use Rattle.mail_address.proofs.Spells.{result-domain}
use Rattle.mail_address.proofs.outbound.sieve_address.Goals as goal

pub returns-else-is_fit-clause-read : goal.returns-else-is_fit-clause-read
unfolding outbound
returns-else-is_fit-clause-read c = search rules

pub returns-then-is_fit-clause-read : goal.returns-then-is_fit-clause-read
unfolding outbound
returns-then-is_fit-clause-read c = search rules

pub returns-then-is_fit-clause-found : goal.returns-then-is_fit-clause-found
returns-then-is_fit-clause-found c = result-named c.args.text.now c.read_fit.result (returns-then-is_fit-clause-read c)

pub returns-then-is_fit-clause-only : goal.returns-then-is_fit-clause-only
returns-then-is_fit-clause-only c = result-only c.args.text.now c.read_fit.result (returns-then-is_fit-clause-read c)

pub returns-then-is_fit-clause-domain : goal.returns-then-is_fit-clause-domain
returns-then-is_fit-clause-domain c = result-domain c.args.text.now c.read_fit.result (returns-then-is_fit-clause-found c)
