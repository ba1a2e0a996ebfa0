use Rattle.std.proofs.Common.{length}
use Rattle.mail_head.proofs.MessageLemmas.{IsRead}
use Rattle.mail_head.proofs.message.read_header.Given as goal

abbrev pub invariant-loop-rest : goal.invariant-loop-rest
invariant-loop-rest l = IsRead l.message l.fields.items l.rest

abbrev pub decreases-loop-rest : goal.decreases-loop-rest
decreases-loop-rest l = length l.rest
