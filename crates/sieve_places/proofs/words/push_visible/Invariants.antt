use Rattle.std.proofs.Common.{◌≡◌, ◌++◌, drop, map}
use Rattle.sieve_places.specs.Places.{shown_octet}
use Rattle.sieve_places.proofs.words.push_visible.Given as goal

abbrev pub invariant-loop-octet : goal.invariant-loop-octet
invariant-loop-octet l = l.out ++ map shown_octet (drop l.octet-index l.octets) ≡ l.fn.out ++ map shown_octet l.octets
