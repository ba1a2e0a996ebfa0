use Rattle.std.proofs.Common.{◌≡◌, ◌<◌, ◌^◌, take}
use Rattle.octets.specs.Decimal.{number_of}
use Rattle.sieve_lex.proofs.number.decimal.Given as goal

abbrev pub invariant-loop-octet : goal.invariant-loop-octet
invariant-loop-octet l = record { so_far : l.value ≡ number_of (take l.octet-index l.digits); small : l.value < 2 ^ 63 }
