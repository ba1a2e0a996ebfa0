-- A folder or an address is a line.
use Rattle.std.proofs.Common.{◌≡◌, false, rules}
use Rattle.cli_run.proofs.ReportLemmas.{none_filed, none_sent}
use Rattle.cli_run.proofs.report.is_discarded.Goals as goal

pub returns-then-not-is_empty-clause-no : goal.returns-then-not-is_empty-clause-no
returns-then-not-is_empty-clause-no c is none =
    let some : c.is_empty.result ≡ false = search rules in
    none_filed c.args.report.now c.is_empty.result some c.is_empty.ensures none

pub returns-then-not-is_empty-2-clause-no : goal.returns-then-not-is_empty-2-clause-no
returns-then-not-is_empty-2-clause-no c is none =
    let some : c.is_empty-2.result ≡ false = search rules in
    none_sent c.args.report.now c.is_empty-2.result some c.is_empty-2.ensures none
