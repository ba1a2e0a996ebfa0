use Rattle.std.proofs.Common.{◌≡◌, ◌≤◌, length}
use Rattle.managesieve_protocol.specs.Replies as s
use Rattle.managesieve_protocol.proofs.spelling.fits_quotes.Given as goal

abbrev pub invariant-loop-octet : goal.invariant-loop-octet
invariant-loop-octet l = record { small : l.count ≤ 1024; same : s.fits_quotes l.count l.rest ≡ s.fits_quotes 0 l.text }

abbrev pub decreases-loop-octet : goal.decreases-loop-octet
decreases-loop-octet l = length l.rest
