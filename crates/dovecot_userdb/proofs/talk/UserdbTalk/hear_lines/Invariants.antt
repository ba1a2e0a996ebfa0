use Rattle.std.proofs.Common.{length}
use Rattle.dovecot_userdb.proofs.TalkLemmas.{HearsSome}
use Rattle.dovecot_userdb.proofs.talk.UserdbTalk.hear_lines.Given as goal

abbrev pub invariant-loop-rest : goal.invariant-loop-rest
invariant-loop-rest l = HearsSome l.octets l.initial.self l.replies l.left l.self

abbrev pub decreases-loop-rest : goal.decreases-loop-rest
decreases-loop-rest l = length l.left
