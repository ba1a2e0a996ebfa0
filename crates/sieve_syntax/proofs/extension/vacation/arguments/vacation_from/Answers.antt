use Rattle.sieve_syntax.proofs.TableLemmas.{finds_one}
use Rattle.sieve_syntax.proofs.VacationLemmas.{vacation_same}
use Rattle.sieve_syntax.proofs.extension.vacation.arguments.vacation_from.Goals as goal

pub returns : goal.returns
returns c = finds_one _ (vacation_same _ _) _ (record {
  days = c.given_days.ensures;
  seconds = c.given_seconds.ensures;
  subject = c.in_ok-subject.ensures.subject;
  from = c.in_ok-from.ensures.found;
  addresses = c.in_ok-addresses.ensures;
  mime = c.given_mime.ensures;
  handle = c.in_ok-subject.ensures.handle;
  reason = c.in_ok-reason.ensures.found;
})
