use Rattle.std.proofs.Common.{◌≡◌, ◌≢◌, rules, tests}
use Rattle.std.proofs.lemmas.Iterator.{cases_from_any, YieldsList-from_slice}
use Rattle.store_engine.specs.declared.parcel.Parcel.{Parcel}
use Rattle.store_engine.proofs.DeliveriesLemmas.{among_answer}
use Rattle.store_engine.proofs.deliveries.is_among.Goals as goal

pub returns : goal.returns
returns c =
    among_answer c.args.parcels.now c.args.user.now c.any.result
    (cases_from_any _ _ c.any.result (λ (p : Parcel). p.user.now ≡ c.args.user.now) (λ (p : Parcel). p.user.now ≢ c.args.user.now) c.any.ensures.ran
    (YieldsList-from_slice c.args.parcels.now (cc)) (λ x q k. search (rules, tests)) (λ x q k. search (rules, tests)))
