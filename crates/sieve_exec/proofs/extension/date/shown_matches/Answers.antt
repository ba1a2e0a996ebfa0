use Rattle.std.proofs.Common.{◌≡◌, Bool, IfOk, subst}
use Rattle.mail_dates.specs.declared.date_time.DateTime.{DateTime}
use Rattle.sieve_exec.specs.Extension.Date.{date_matches}
use Rattle.sieve_exec.proofs.DateLemmas.{shown_found, shown_nowhere}
use Rattle.sieve_exec.proofs.extension.date.shown_matches.Goals as goal

pub returns-in-Some : goal.returns-in-Some
returns-in-Some c =
    let test = c.args.test.now in
    let passes : DateTime → Bool = date_matches test.comparator test.matching test.keys test.part in
    subst (λ (b : Bool). IfOk c.part_matches.result (λ holds. holds ≡ b)) (shown_found c.args.mail.now test.zone passes c.args.date c.in-Some.date c.in-Some.ensures.exact)
    (rw c.as_slice.ensures at c.part_matches.ensures)

pub returns-in-None : goal.returns-in-None
returns-in-None c =
    let test = c.args.test.now in
    shown_nowhere c.args.mail.now test.zone (date_matches test.comparator test.matching test.keys test.part) c.args.date c.in-None.ensures.exact
