use Rattle.std.proofs.Common.{◌≡◌, drop}
use Rattle.sieve_syntax.specs.Extension.Date.{zone_in}
use Rattle.sieve_syntax.proofs.extension.date.given_zone.Given as goal

abbrev pub invariant-loop-tag_value : goal.invariant-loop-tag_value
invariant-loop-tag_value l = zone_in (drop l.tag_value-index l.tag_values) ≡ zone_in l.tag_values
