use Rattle.std.proofs.Common.{◌≡◌, take}
use Rattle.std.specs.List.{AllPass}
use Rattle.octets.specs.Ascii.{is_digit}
use Rattle.octets.specs.Decimal.{number_of}
use Rattle.octets.proofs.decimal.parse_decimal.Given as goal

abbrev pub invariant-loop-octet : goal.invariant-loop-octet
invariant-loop-octet l = record { so_far : l.number ≡ number_of (take l.octet-index l.text); digits : AllPass is_digit (take l.octet-index l.text) }
