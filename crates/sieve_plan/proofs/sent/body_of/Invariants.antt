-- So far no line is empty, so the body is that of what follows.
use Rattle.std.proofs.Common.{◌≡◌, length}
use Rattle.mail_head.specs.Heads.{body_of}
use Rattle.sieve_plan.proofs.sent.body_of.Given as goal

abbrev pub invariant-loop-rest : goal.invariant-loop-rest
invariant-loop-rest l = body_of l.rest ≡ body_of l.message

abbrev pub decreases-loop-rest : goal.decreases-loop-rest
decreases-loop-rest l = length l.rest
