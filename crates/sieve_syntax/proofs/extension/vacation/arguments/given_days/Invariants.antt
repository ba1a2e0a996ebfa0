use Rattle.std.proofs.Common.{◌≡◌, drop}
use Rattle.sieve_syntax.specs.Extension.Vacation.{days_in}
use Rattle.sieve_syntax.proofs.extension.vacation.arguments.given_days.Given as goal

abbrev pub invariant-loop-tag_value : goal.invariant-loop-tag_value
invariant-loop-tag_value l = days_in (drop l.tag_value-index l.tag_values) ≡ days_in l.tag_values
