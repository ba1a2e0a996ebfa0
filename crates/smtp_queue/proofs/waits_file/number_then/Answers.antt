-- The text was cut at its first space, and the digits before it were read.
use Rattle.std.proofs.Common.{refl}
use Rattle.smtp_queue.proofs.TextLemmas.{number_read, number_lost}
use Rattle.smtp_queue.proofs.waits_file.number_then.Goals as goal

pub returns-in-Some-parse_decimal : goal.returns-in-Some-parse_decimal
returns-in-Some-parse_decimal c n rest small is =
    number_read c.args.text.now c.in-Some.cut.front.now c.in-Some.cut.rest.now c.in-Some.ensures.found n rest small is c.parse_decimal.result c.parse_decimal.ensures (record { value = c.in-Some-parse_decimal.value; rest = c.in-Some.cut.rest }) c.in-Some-parse_decimal.is refl

pub returns-in-None : goal.returns-in-None
returns-in-None c n rest small is =
    number_lost c.args.text.now c.in-Some.cut.front.now c.in-Some.cut.rest.now c.in-Some.ensures.found n rest small is c.parse_decimal.result c.parse_decimal.ensures c.in-None.is
