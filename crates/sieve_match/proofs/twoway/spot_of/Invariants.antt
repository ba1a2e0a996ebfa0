use Rattle.std.proofs.Common.{◌≡◌, ◌+◌, ◌-◌, ◌≤◌}
use Rattle.sieve_match.proofs.twoway.spot_of.Given as goal

abbrev pub invariant-loop-spot : goal.invariant-loop-spot
invariant-loop-spot g l = record {
  within : l.spot.index ≤ l.index;
  spot : g.K.Key.is_spot l.key l.spot;
  cost : l.steps ≡ l.fn.steps + l.spot.index;
}

abbrev pub decreases-loop-spot : goal.decreases-loop-spot
decreases-loop-spot g l = l.index - l.spot.index
