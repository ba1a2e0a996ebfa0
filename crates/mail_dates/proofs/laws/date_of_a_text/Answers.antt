use Rattle.mail_dates.proofs.ReadingLaws.{one_date}
use Rattle.mail_dates.proofs.laws.date_of_a_text.Goals as goal

pub returns : goal.returns
returns c text one two is other = one_date text one two is other
