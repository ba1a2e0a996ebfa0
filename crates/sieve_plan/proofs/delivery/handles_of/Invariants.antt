use Rattle.std.proofs.Common.{◌≡◌, map, take}
use Rattle.sieve_plan.specs.Sent.{sent_handle}
use Rattle.sieve_plan.proofs.delivery.handles_of.Given as goal

abbrev pub invariant-loop-target : goal.invariant-loop-target
invariant-loop-target l = l.handles ≡ map (sent_handle l.half l.key) (take l.target-index l.going)
