use Rattle.std.proofs.Common.{◌≡◌, ◌+◌, ◌≤◌, min, take}
use Rattle.octets.specs.Decimal.{number_of}
use Rattle.sieve_template.specs.declared.limits.TheConstants.{MAX_MATCH_VARIABLE}
use Rattle.sieve_template.proofs.reference.match_number.Given as goal

abbrev pub invariant-loop-octet : goal.invariant-loop-octet
invariant-loop-octet l = record { few : l.number ≤ MAX_MATCH_VARIABLE + 1; so_far : l.number ≡ min (number_of (take l.octet-index l.digits)) (MAX_MATCH_VARIABLE + 1) }
