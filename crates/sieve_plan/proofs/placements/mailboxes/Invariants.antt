use Rattle.std.proofs.Common.{◌≡◌, map, take}
use Rattle.sieve_plan.proofs.placements.mailboxes.Given as goal

abbrev pub invariant-loop-placement : goal.invariant-loop-placement
invariant-loop-placement l = l.texts ≡ map (λ f. f.mailbox) (take l.placement-index l.filed)
