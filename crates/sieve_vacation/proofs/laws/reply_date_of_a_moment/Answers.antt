use Rattle.sieve_vacation.proofs.DateLaws.{one_date}
use Rattle.sieve_vacation.proofs.laws.reply_date_of_a_moment.Goals as goal

pub returns : goal.returns
returns c = one_date
