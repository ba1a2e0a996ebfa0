use Rattle.std.proofs.Common.{[], subst}
use Rattle.daemon_core.specs.LmtpSteps.{IsDeliveryReply}
use Rattle.daemon_core.proofs.LmtpStepLemmas.{asks_delivery, answer_delivery, unbrought}
use Rattle.daemon_core.proofs.mail_step.deliver.Goals as goal

pub returns-in-Some-clause-does : goal.returns-in-Some-clause-does
returns-in-Some-clause-does g c = λ spare.
    let is : IsDeliveryReply c.args.request.sender c.in-Some.answer c.reply_for_delivery-became.result = subst (λ x. IsDeliveryReply x c.in-Some.answer c.reply_for_delivery-became.result) c.as_slice.ensures c.reply_for_delivery-became.ensures in
    answer_delivery g.O.Outside.told g.O.StoreAccess.store g.met.O.StoreAccess.sure c.args.outside.now c.deliver.new.self c.args.daemon.now c.deliver.new.clients c.args.now c.args.id []
    c.args.connection.now c.answer_delivery.new.self spare c.answer_delivery.ensures.held c.args.request c.in-Some.answer c.reply_for_delivery-became.result c.in-Some.ensures.delivers is c.answer_delivery.ensures.does c.asked_at-daemon.result c.asked_at-daemon.ensures

pub returns-clause-does : goal.returns-clause-does
returns-clause-does g c = λ spare.
    unbrought g.O.Outside.told g.O.StoreAccess.store g.met.O.StoreAccess.sure c.args.outside.now c.deliver.new.self c.args.daemon.now c.deliver.new.clients c.args.now c.args.id []
    c.args.connection.now c.await_store.new.self spare c.await_store.ensures.held c.args.request c.in-None.ensures.delivers c.await_store.ensures.does

pub await_store-requires : goal.await_store-requires
await_store-requires g c = asks_delivery c.args.now c.args.connection.now c.args.request c.requires
