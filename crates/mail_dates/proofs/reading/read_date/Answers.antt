use Rattle.std.proofs.Common.{sym, ◌∙◌}
use Rattle.std.proofs.lemmas.Bool.{false≢true}
use Rattle.mail_dates.proofs.ReadingLaws.{parts_is, year_fits, text_of, text_valid, only_text, no_text}
use Rattle.mail_dates.proofs.reading.read_date.Goals as goal
use Rattle.mail_dates.proofs.reading.read_date.Goals.{else-is_over-via-then-is_over+else-is_civil, else-is_over-via-else-is_over}

pub returns-in_err-date-clause-exact : goal.returns-in_err-date-clause-exact
returns-in_err-date-clause-exact c = rw c.from_residual.ensures (λ date is. no_text c.args.text.now date c.in_err-date.ensures is)

pub is_civil-requires : goal.is_civil-requires
is_civil-requires c = year_fits c.args.text.now c.in_ok-date.date c.in_ok-date.rest.now (parts_is c.args.text.now c.in_ok-date.date c.in_ok-date.rest.now c.in_ok-date.ensures)

pub returns-then-is_civil-clause-exact : goal.returns-then-is_civil-clause-exact
returns-then-is_civil-clause-exact c =
    let parts = parts_is c.args.text.now c.in_ok-date.date c.in_ok-date.rest.now c.in_ok-date.ensures in
    text_of c.args.text.now c.in_ok-date.date c.in_ok-date.rest.now parts (c.is_over.ensures.0 c.if-is_over.true) (c.is_civil.ensures.0 c.if-is_civil.true)

pub returns-then-is_civil-clause-valid : goal.returns-then-is_civil-clause-valid
returns-then-is_civil-clause-valid c =
    let parts = parts_is c.args.text.now c.in_ok-date.date c.in_ok-date.rest.now c.in_ok-date.ensures in
    text_valid c.args.text.now c.in_ok-date.date (text_of c.args.text.now c.in_ok-date.date c.in_ok-date.rest.now parts (c.is_over.ensures.0 c.if-is_over.true) (c.is_civil.ensures.0 c.if-is_civil.true))

pub returns-else-is_over-clause-exact : goal.returns-else-is_over-clause-exact
returns-else-is_over-clause-exact c date is =
    let only = only_text c.args.text.now c.in_ok-date.date c.in_ok-date.rest.now date c.in_ok-date.ensures is in
    elim c.else-is_over.branch [
      | else-is_over-via-then-is_over+else-is_civil w ↦ false≢true (sym w.if-is_civil.false ∙ w.is_civil.ensures.1 only.1.1)
      | else-is_over-via-else-is_over w ↦ false≢true (sym w.if-is_over.false ∙ c.is_over.ensures.1 only.1.0)
    ]
