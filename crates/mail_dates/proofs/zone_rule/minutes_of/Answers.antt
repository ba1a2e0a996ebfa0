use Rattle.std.proofs.Common.{arith}
use Rattle.jiff_core.proofs.SignedLemmas.{signed_arith}
use Rattle.mail_dates.proofs.zone_rule.minutes_of.Goals as goal

pub returns-clause-within : goal.returns-clause-within
returns-clause-within c = omega (arith, signed_arith)

pub returns-clause-is : goal.returns-clause-is
returns-clause-is c = omega (arith, signed_arith)
