-- Each octet that is shown may stand.
use Rattle.cli_reports.proofs.Telling.{address_stands}
use Rattle.cli_reports.proofs.laws.addresses_stand.Goals as goal

pub returns : goal.returns
returns c = address_stands
