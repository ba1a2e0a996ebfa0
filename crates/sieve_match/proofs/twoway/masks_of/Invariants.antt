-- The places so far are those of the key's octets so far.
use Rattle.std.proofs.Common.{◌≡◌, ◌+◌, ◌-◌, ◌≤◌}
use Rattle.sieve_match.specs.Places.{AreMasks}
use Rattle.sieve_match.specs.Search.{fits_key}
use Rattle.sieve_match.proofs.twoway.masks_of.Given as goal

abbrev pub invariant-loop-spot : goal.invariant-loop-spot
invariant-loop-spot g l = record {
  known : AreMasks (fits_key g.C.Comparator.image_of (g.K.Key.octet_at l.key)) l.spot.index l.masks;
  within : l.spot.index ≤ g.K.Key.size l.key;
  spot : g.K.Key.is_spot l.key l.spot;
  cost : l.steps ≡ l.fn.steps + l.spot.index + 256;
}

abbrev pub decreases-loop-spot : goal.decreases-loop-spot
decreases-loop-spot g l = g.K.Key.size l.key - l.spot.index
