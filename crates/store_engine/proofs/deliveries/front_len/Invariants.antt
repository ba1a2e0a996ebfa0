-- No user stands twice so far.
use Rattle.std.proofs.Common.{take}
use Rattle.store_accounts.specs.Deliveries.{HasNoUserTwice}
use Rattle.store_engine.specs.Deliveries.{parcel_users}
use Rattle.store_engine.proofs.deliveries.front_len.Given as goal

abbrev pub invariant-loop-at : goal.invariant-loop-at
invariant-loop-at l = HasNoUserTwice (parcel_users (take l.at l.parcels))
