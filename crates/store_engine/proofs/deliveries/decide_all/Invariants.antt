-- What was decided so far.
use Rattle.std.proofs.Common.{take, Ok}
use Rattle.std.specs.List.{AllZip}
use Rattle.sqlite.specs.Held.{state}
use Rattle.store_engine.specs.Deliveries.{DecidesEach, IsFor}
use Rattle.store_engine.specs.Terms.{terms_of}
use Rattle.store_engine.proofs.deliveries.decide_all.Given as goal

abbrev pub invariant-loop-i : goal.invariant-loop-i
invariant-loop-i g l = record {
  decided : DecidesEach (terms_of l.terms) (take l.i l.parcels) (state g.S.Store l.fn.store) (state g.S.Store l.store) (Ok l.decisions);
  whose : AllZip IsFor (take l.i l.parcels) l.decisions.items;
}
