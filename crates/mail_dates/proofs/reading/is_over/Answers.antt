use Rattle.mail_dates.proofs.PieceLaws.{over_exact}
use Rattle.mail_dates.proofs.reading.is_over.Goals as goal

pub returns-in-Some : goal.returns-in-Some
returns-in-Some c = over_exact c.args.text.now c.in-Some.word.now c.in-Some.field-0-1.now c.is_empty.result c.in-Some.ensures c.is_empty.ensures
