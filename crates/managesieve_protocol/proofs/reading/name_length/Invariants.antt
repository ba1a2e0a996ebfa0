use Rattle.std.proofs.Common.{◌≡◌, ◌+◌, length}
use Rattle.managesieve_protocol.specs.Values as v
use Rattle.managesieve_protocol.proofs.reading.name_length.Given as goal

abbrev pub invariant-loop-octet : goal.invariant-loop-octet
invariant-loop-octet l = record { counted : l.count + length l.rest ≡ length l.text; same : l.count + v.name_length l.rest ≡ v.name_length l.text }

abbrev pub decreases-loop-octet : goal.decreases-loop-octet
decreases-loop-octet l = length l.rest
