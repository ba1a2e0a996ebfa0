use Rattle.mail_dates.proofs.FindingLaws.{date_of_is, date_of_again}
use Rattle.mail_dates.proofs.laws.date_found_in_a_text.Goals as goal

pub returns : goal.returns
returns c text date = (date_of_is text date, date_of_again text date)
