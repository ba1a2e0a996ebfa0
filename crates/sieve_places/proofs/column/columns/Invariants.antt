use Rattle.std.proofs.Common.{◌≡◌, ◌+◌, ◌≤◌, take}
use Rattle.sieve_places.specs.Places.{columns_of}
use Rattle.sieve_places.proofs.column.columns.Given as goal

abbrev pub invariant-loop-octet : goal.invariant-loop-octet
invariant-loop-octet l = record { so_far : l.column ≡ columns_of (take l.octet-index l.octets); small : l.column ≤ l.octet-index + 1 }
