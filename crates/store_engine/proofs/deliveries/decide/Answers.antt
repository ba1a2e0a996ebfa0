use Rattle.std.proofs.Common.{sym, subst}
use Rattle.sqlite.specs.Held.{state}
use Rattle.store_engine.specs.Deliveries.{HasHeader, IsOpened}
use Rattle.store_engine.specs.Terms.{terms_of}
use Rattle.store_engine.proofs.DeliveriesLemmas.{one_limited}
use Rattle.store_engine.proofs.deliveries.decide.Goals as goal

pub returns-in-Limited-clause-decides : goal.returns-in-Limited-clause-decides
returns-in-Limited-clause-decides g c =
    one_limited (terms_of c.args.terms) c.args.parcel.now (state g.S.Store c.args.store.now) c.in-Limited.refusal (subst (IsOpened c.args.terms.when c.args.parcel.now) c.in-Limited.is c.requires)

pub decide_accepted-requires-clause-free : goal.decide_accepted-requires-clause-free
decide_accepted-requires-clause-free g c = (subst (IsOpened c.args.terms.when c.args.parcel.now) c.in-Accepted.is c.requires).0

pub decide_accepted-requires-clause-header : goal.decide_accepted-requires-clause-header
decide_accepted-requires-clause-header g c = subst (HasHeader c.args.terms.when c.args.parcel.now) (sym c.as_ref.ensures.value) (subst (IsOpened c.args.terms.when c.args.parcel.now) c.in-Accepted.is c.requires).1
