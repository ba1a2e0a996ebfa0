use Rattle.mail_head.proofs.CountLemmas.{last_found}
use Rattle.mail_head.proofs.size_count.last_after.Goals as goal

pub returns-in-Some : goal.returns-in-Some
returns-in-Some c = last_found c.args.before c.args.text.now c.in-Some.octet.now c.in-Some.ensures.value
