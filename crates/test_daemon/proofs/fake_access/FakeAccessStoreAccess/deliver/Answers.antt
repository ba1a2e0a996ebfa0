-- The event that was copied, at the moment of the clock.
use Rattle.std.proofs.Common.{◌∙◌, ap, subst, sym, rules}
use Rattle.daemon_core.specs.StoreAccess.{AppliesEvent, access_state, delivery_of}
use Rattle.mail_dates.specs.HostZones.{IsOffsetAt}
use Rattle.store_engine.specs.Terms.{terms}
use Rattle.test_daemon.specs.FakeAccess.{fake_telling, fake_store}
use Rattle.test_daemon.proofs.fake_access.FakeAccessStoreAccess.deliver.Goals as goal

pub returns-in-Ok-clause-delivers : goal.returns-in-Ok-clause-delivers
returns-in-Ok-clause-delivers g c = (
  c.at-terms.result.when,
  (tt, subst (λ m. IsOffsetAt c.args.self.now.host.zone m c.at-terms.result.when.zone) (sym c.at-terms.ensures.moment) c.at-terms.ensures.zone),
  subst (λ e. AppliesEvent (fake_telling {S = g.row.S.Denot}) (fake_store {S = g.row.S.Denot} g.S.Shelf.view g.S.Shelf.has g.S.Shelf.there) c.args.id e (access_state c.args.self.now c.args.clients.now.sessions) c.bring.result
      (access_state c.bring.new.self c.bring.new.clients.sessions))
      (c.in-Ok.ensures ∙ ap (λ host. delivery_of c.args.request.now (terms c.at-terms.result.when host)) c.at-terms.ensures.host) c.bring.ensures.brings,
)

pub returns-in-Err-clause-delivers : goal.returns-in-Err-clause-delivers
returns-in-Err-clause-delivers g c = (
  c.at-terms.result.when,
  (tt, subst (λ m. IsOffsetAt c.args.self.now.host.zone m c.at-terms.result.when.zone) (sym c.at-terms.ensures.moment) c.at-terms.ensures.zone),
  search rules,
)
