use Rattle.std.proofs.Common.{◌≡◌, drop}
use Rattle.sieve_syntax.specs.Extension.Vacation.{handle_in}
use Rattle.sieve_syntax.proofs.extension.vacation.arguments.given_handle.Given as goal

abbrev pub invariant-loop-tag_value : goal.invariant-loop-tag_value
invariant-loop-tag_value l = handle_in (drop l.tag_value-index l.tag_values) ≡ handle_in l.tag_values
