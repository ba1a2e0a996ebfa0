use Rattle.std.proofs.Common.{◌≡◌, drop}
use Rattle.sieve_syntax.specs.Extension.Vacation.{from_in}
use Rattle.sieve_syntax.proofs.extension.vacation.arguments.from_text.Given as goal

abbrev pub invariant-loop-tag_value : goal.invariant-loop-tag_value
invariant-loop-tag_value l = from_in (drop l.tag_value-index l.tag_values) ≡ from_in l.tag_values
