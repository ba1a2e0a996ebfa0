use Rattle.std.proofs.Common.{◌≡◌, drop}
use Rattle.sieve_syntax.specs.Extension.VacationSeconds.{seconds_in}
use Rattle.sieve_syntax.proofs.extension.vacation_seconds.given_seconds.Given as goal

abbrev pub invariant-loop-tag_value : goal.invariant-loop-tag_value
invariant-loop-tag_value l = seconds_in (drop l.tag_value-index l.tag_values) ≡ seconds_in l.tag_values
