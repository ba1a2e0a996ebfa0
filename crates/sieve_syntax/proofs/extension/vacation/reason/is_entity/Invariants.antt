use Rattle.std.proofs.Common.{◌≡◌, length}
use Rattle.sieve_syntax.specs.Extension.Vacation.Reasons.{is_entity}
use Rattle.sieve_syntax.proofs.extension.vacation.reason.is_entity.Given as goal

abbrev pub invariant-loop-rest : goal.invariant-loop-rest
invariant-loop-rest l = is_entity l.rest ≡ is_entity l.text

abbrev pub decreases-loop-rest : goal.decreases-loop-rest
decreases-loop-rest l = length l.rest
