use Rattle.std.proofs.Common.{take, true≢false, sym, ◌∙◌}
use Rattle.store_engine.proofs.DeliveriesLemmas.{among_users, is_among_users, front_more, front_ends}
use Rattle.store_engine.proofs.deliveries.front_len.Goals as goal

pub returns-then-is_among : goal.returns-then-is_among
returns-then-is_among c =
    let p = c.index-parcels-at.result in
    front_ends c.args.parcels.now c.loop-at.at p c.loop-at-test.true c.index-parcels-at.is c.loop-at.invariant (among_users (take c.loop-at.at c.args.parcels.now) p.user.now (c.is_among.ensures.0 c.if-is_among.true))

pub loop-at-preserved : goal.loop-at-preserved
loop-at-preserved c =
    let p = c.index-parcels-at.result in
    front_more c.args.parcels.now c.loop-at.at p c.loop-at-test.true c.index-parcels-at.is c.loop-at.invariant
    (λ has. true≢false (sym (c.is_among.ensures.1 (is_among_users (take c.loop-at.at c.args.parcels.now) p.user.now has)) ∙ c.if-is_among.false))
