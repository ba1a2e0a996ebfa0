use Rattle.sieve_vacation.proofs.ReplyLaws.{one_reply}
use Rattle.sieve_vacation.proofs.laws.reply_to_a_mail.Goals as goal

pub returns : goal.returns
returns c = one_reply
