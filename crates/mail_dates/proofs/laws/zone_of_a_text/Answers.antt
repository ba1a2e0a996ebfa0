use Rattle.mail_dates.proofs.ZoneLaws.{numeric_is, numeric_again}
use Rattle.mail_dates.proofs.laws.zone_of_a_text.Goals as goal

pub returns : goal.returns
returns c text zone = (numeric_is text zone, numeric_again text zone)
