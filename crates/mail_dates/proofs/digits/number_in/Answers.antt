use Rattle.std.proofs.Common.{arith}
use Rattle.mail_dates.proofs.WordLemmas.{number_some, number_past, number_none}
use Rattle.mail_dates.proofs.digits.number_in.Goals as goal

pub returns-in_err-number-clause-is : goal.returns-in_err-number-clause-is
returns-in_err-number-clause-is c = rw c.from_residual.ensures (number_none c.args.limit c.args.word.now (omega arith) c.in_err-number.ensures)

pub returns-then-number-from-clause-is : goal.returns-then-number-from-clause-is
returns-then-number-from-clause-is c = number_some c.args.limit c.in_ok-number.number c.args.word.now c.in_ok-number.ensures (omega arith)

pub returns-else-number-from-clause-is : goal.returns-else-number-from-clause-is
returns-else-number-from-clause-is c = number_past c.args.limit c.in_ok-number.number c.args.word.now c.in_ok-number.ensures (omega arith)
