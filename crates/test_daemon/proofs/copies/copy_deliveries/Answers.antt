use Rattle.std.proofs.Common.{◌≡◌, ◌+◌, [], ◌∷◌, ◌++◌, List, take, take_all, refl, sym, ◌∙◌, ap, rules}
use Rattle.store_engine.specs.declared.event.Event.{Event}
use Rattle.daemon_core.specs.StoreAccess.{delivery_of}
use Rattle.daemon_core.specs.Together.{deliveries_of}
use Rattle.daemon_core.specs.declared.gathered.GatheredRequest.{GatheredRequest}
use Rattle.test_daemon.proofs.CopyLemmas.{mapped_more}
use Rattle.test_daemon.proofs.copies.copy_deliveries.Goals as goal

pub loop-it-preserved : goal.loop-it-preserved
loop-it-preserved c =
    let it = c.it-item.result in
    let event = c.in_ok-copy_event_of.field-0 in
    let joined : c.push.new.self.items ≡ c.loop-it.events.items ++ event ∷ [] = search rules in
    joined
    ∙ (ap (λ (l : List Event). l ++ event ∷ []) c.loop-it.invariant
    ∙ (ap (λ e. deliveries_of c.args.terms.now (take c.loop-it.it-index c.args.requests.now) ++ e ∷ []) c.in_ok-copy_event_of.ensures
    ∙ sym (mapped_more (λ (x : GatheredRequest). delivery_of x.request c.args.terms.now) c.args.requests.now c.loop-it.it-index it c.loop-it-test.true c.it-item.is)))

pub returns : goal.returns
returns c = c.from_vec.ensures ∙ (c.loop-it.invariant ∙ ap (deliveries_of c.args.terms.now) (take_all c.loop-it.it-index c.args.requests.now c.loop-it-test.false))
