use Rattle.std.proofs.Common.{◌-◌, length}
use Rattle.smtp_connections.proofs.AnswerLemmas.{BeginsAnswer}
use Rattle.smtp_connections.proofs.answer.read_answer.Given as goal

abbrev pub invariant-loop-count : goal.invariant-loop-count
invariant-loop-count l = BeginsAnswer l.octets l.at l.code

abbrev pub decreases-loop-count : goal.decreases-loop-count
decreases-loop-count l = length l.octets - l.at
