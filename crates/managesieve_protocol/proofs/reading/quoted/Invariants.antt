use Rattle.std.proofs.Common.{◌≡◌, false, length}
use Rattle.managesieve_protocol.specs.Values as v
use Rattle.managesieve_protocol.proofs.Quoting.{with_front}
use Rattle.managesieve_protocol.proofs.reading.quoted.Given as goal

abbrev pub invariant-loop-octet : goal.invariant-loop-octet
invariant-loop-octet l = with_front l.value (v.quoted_in l.escape l.rest) ≡ v.quoted_in false l.text

abbrev pub decreases-loop-octet : goal.decreases-loop-octet
decreases-loop-octet l = length l.rest
