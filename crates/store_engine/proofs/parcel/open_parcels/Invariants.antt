-- What was seen so far.
use Rattle.std.proofs.Common.{take}
use Rattle.std.specs.List.{AllZip}
use Rattle.store_engine.specs.Deliveries.{IsOpened}
use Rattle.store_engine.proofs.parcel.open_parcels.Given as goal

abbrev pub invariant-loop-parcel : goal.invariant-loop-parcel
invariant-loop-parcel l = AllZip (IsOpened l.when) (take l.parcel-index l.parcels) l.opened.items
