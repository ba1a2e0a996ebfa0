use Rattle.std.proofs.Common.{◌≡◌, length}
use Rattle.sieve_syntax.specs.Extension.Vacation.Reasons.{is_narrow_text}
use Rattle.sieve_syntax.proofs.extension.vacation.reason.is_narrow_text.Given as goal

abbrev pub invariant-loop-rest : goal.invariant-loop-rest
invariant-loop-rest l = is_narrow_text l.rest ≡ is_narrow_text l.text

abbrev pub decreases-loop-rest : goal.decreases-loop-rest
decreases-loop-rest l = length l.rest
