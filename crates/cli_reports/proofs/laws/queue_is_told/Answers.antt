-- A line is cut at its marks, a listing at its line ends.
use Rattle.cli_reports.proofs.Telling.{line_told, listing_told}
use Rattle.cli_reports.proofs.laws.queue_is_told.Goals as goal

pub returns-clause-line : goal.returns-clause-line
returns-clause-line c = line_told

pub returns-clause-listing : goal.returns-clause-listing
returns-clause-listing c = listing_told
