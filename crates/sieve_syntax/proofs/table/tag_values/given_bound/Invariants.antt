use Rattle.std.proofs.Common.{◌≡◌, drop}
use Rattle.sieve_syntax.specs.TagValues.{bound_in}
use Rattle.sieve_syntax.proofs.table.tag_values.given_bound.Given as goal

abbrev pub invariant-loop-tag_value : goal.invariant-loop-tag_value
invariant-loop-tag_value l = bound_in (drop l.tag_value-index l.tag_values) ≡ bound_in l.tag_values
