use Rattle.std.proofs.Common.{◌≡◌, drop}
use Rattle.sieve_syntax.specs.Extension.Copy.{copy_in}
use Rattle.sieve_syntax.proofs.extension.copy.given_copy.Given as goal

abbrev pub invariant-loop-tag_value : goal.invariant-loop-tag_value
invariant-loop-tag_value l = copy_in (drop l.tag_value-index l.tag_values) ≡ copy_in l.tag_values
