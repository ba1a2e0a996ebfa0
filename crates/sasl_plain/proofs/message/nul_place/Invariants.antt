use Rattle.std.proofs.Common.{◌≡◌, ◌+◌, length}
use Rattle.sasl_plain.specs.Parts.{nul_place}
use Rattle.sasl_plain.proofs.message.nul_place.Given as goal

abbrev pub invariant-loop-octet : goal.invariant-loop-octet
invariant-loop-octet l = record { counted : l.count + length l.rest ≡ length l.text; same : l.count + nul_place l.rest ≡ nul_place l.text }

abbrev pub decreases-loop-octet : goal.decreases-loop-octet
decreases-loop-octet l = length l.rest
