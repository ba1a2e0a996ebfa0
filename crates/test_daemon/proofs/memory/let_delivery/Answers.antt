-- The delivery, with the envelope that was copied.
use Rattle.std.proofs.Common.{◌≡◌, ◌∙◌, is_ok, refl, rules, subst}
use Rattle.sqlite.specs.Held.{state}
use Rattle.sqlite.specs.Steps.{over_memory}
use Rattle.store_engine.specs.AccountEvents.{Delivery}
use Rattle.store_engine.specs.Hosts.{ActsDelivery, MayRefuseDelivery}
use Rattle.store_engine.specs.declared.answer.Answer.TheVariants.{Delivered}
use Rattle.store_engine.specs.declared.event.Event.TheVariants.{Deliver}
use Rattle.store_engine.proofs.HostLemmas.{delivery_may}
use Rattle.test_daemon.proofs.MemoryLemmas.{lets_by}
use Rattle.test_daemon.proofs.memory.let_delivery.Goals as goal

pub returns : goal.returns
returns c =
    let user = c.args.user.now in
    let envelope = c.args.envelope.now in
    let message = c.args.message.now in
    let terms = c.args.terms.now in
    let old = state over_memory c.args.store.now in
    let new = state over_memory c.deliver.new.store in
    let is : c.is_ok.result ≡ is_ok c.deliver.result = search rules in
    let told = subst (λ t. ActsDelivery user c.in-Ok.envelope message t old new c.deliver.result) c.lend.ensures.lent c.deliver.ensures.acts in
    let acts = subst (λ e. ActsDelivery user e message terms old new c.deliver.result) c.in-Ok.ensures told in
    lets_by (Deliver user envelope message terms) (λ accounts. Delivery accounts user envelope message terms) (MayRefuseDelivery envelope message terms.when.moment) (delivery_may user message envelope terms)
    (λ w answer later row. (later, row, refl)) c.args.store.now c.deliver.new.store Delivered c.deliver.result c.is_ok.result is acts
