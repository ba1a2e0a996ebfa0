use Rattle.sieve_vacation.proofs.TextLemmas.{usable_is, usable_isnt}
use Rattle.sieve_vacation.proofs.text.usable.Goals as goal

pub returns-in-Ok : goal.returns-in-Ok
returns-in-Ok c = usable_is c.args.text.now c.in-Ok.text.now c.in-Ok.ensures.cases.0 c.in-Ok.ensures.cases.1

pub returns-in-Err : goal.returns-in-Err
returns-in-Err c = usable_isnt c.args.text.now c.in-Err.ensures.cases.0
