use Rattle.mail_words.proofs.QuotedLemmas.{IsRead}
use Rattle.mail_words.proofs.quoted.from_quoted.Given as goal

abbrev pub invariant-loop-octet : goal.invariant-loop-octet
invariant-loop-octet l = IsRead l.text l.octets.items l.mode l.octet-index
