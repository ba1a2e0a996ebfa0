use Rattle.mail_dates.proofs.MomentLaws.{one_moment, one_same}
use Rattle.mail_dates.proofs.laws.date_of_a_moment.Goals as goal

pub returns-clause-moment : goal.returns-clause-moment
returns-clause-moment c = one_moment

pub returns-clause-same : goal.returns-clause-same
returns-clause-same c = one_same
