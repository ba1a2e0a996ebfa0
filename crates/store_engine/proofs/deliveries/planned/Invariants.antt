-- The plans so far.
use Rattle.std.proofs.Common.{◌≡◌, take}
use Rattle.store_accounts.specs.Deliveries.{plans_in}
use Rattle.store_engine.specs.Deliveries.{plans_made}
use Rattle.store_engine.proofs.deliveries.planned.Given as goal

abbrev pub invariant-loop-decision : goal.invariant-loop-decision
invariant-loop-decision l = plans_in l.planned.items ≡ plans_made (take l.decision-index l.decisions)
