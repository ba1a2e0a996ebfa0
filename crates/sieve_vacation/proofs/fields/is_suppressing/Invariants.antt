use Rattle.std.proofs.Common.{◌≡◌, length}
use Rattle.mail_head.specs.Heads.{unfold_of}
use Rattle.sieve_vacation.specs.Cases.{is_suppressing}
use Rattle.sieve_vacation.proofs.fields.is_suppressing.Given as goal

abbrev pub invariant-loop-rest : goal.invariant-loop-rest
invariant-loop-rest l = is_suppressing (unfold_of l.rest) ≡ is_suppressing (unfold_of l.raw)

abbrev pub decreases-loop-rest : goal.decreases-loop-rest
decreases-loop-rest l = length l.rest
