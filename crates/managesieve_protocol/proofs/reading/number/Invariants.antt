use Rattle.std.proofs.Common.{◌≡◌, length}
use Rattle.managesieve_protocol.specs.Values as v
use Rattle.managesieve_protocol.proofs.reading.number.Given as goal

abbrev pub invariant-loop-octet : goal.invariant-loop-octet
invariant-loop-octet l = v.digits_in l.number l.rest ≡ v.digits_in 0 l.text

abbrev pub decreases-loop-octet : goal.decreases-loop-octet
decreases-loop-octet l = length l.rest
