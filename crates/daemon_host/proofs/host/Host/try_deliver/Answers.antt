-- What was done to the store that was reached, behind calls that changed no account and left the settings.
use Rattle.std.proofs.Common.{◌≡◌, [], Some, ◌∙◌, subst, sym}
use Rattle.store_engine.specs.Hosts.{SessionMap}
use Rattle.store_engine.specs.Terms.{terms}
use Rattle.daemon_core.specs.StoreAccess.{IsEventDone, delivery_of}
use Rattle.daemon_core.proofs.StillLemmas.{still_then}
use Rattle.mail_dates.specs.HostZones.{IsOffsetAt}
use Rattle.daemon_host.specs.Moments.{GivesNext}
use Rattle.daemon_host.specs.Held.{HostBrings}
use Rattle.daemon_host.proofs.HeldLemmas.{done_behind, nothing_behind}
use Rattle.daemon_host.proofs.RoomLemmas.{told_done}
use Rattle.daemon_host.proofs.host.Host.try_deliver.Goals as goal

pub returns-in-Some : goal.returns-in-Some
returns-in-Some g c =
    let view = g.H.MailStore.view in
    let when = c.at.result.when in
    let told = c.tell_delivery.result in
    let same : c.reach.new.self.settings ≡ c.args.self.now.settings = c.reach.ensures.settings ∙ c.may_ask.ensures.settings in (
      when,
      (subst (GivesNext g.S.HostSystem.showed c.args.self.now.system) (sym c.at.ensures.moment) (c.seconds.new.self, c.seconds.ensures), subst (λ m. IsOffsetAt c.args.self.now.settings.zone m when.zone) (sym c.at.ensures.moment) c.at.ensures.zone),
      subst (λ host. (kept : SessionMap) → HostBrings view g.H.MailStore.clean (delivery_of c.args.request.now (terms when host)) (Some told) c.args.self.now.held kept c.tell_delivery.new.self.held kept) same
          (λ kept clean.
          let here = c.is_kept-kept.ensures.kept (subst g.H.MailStore.clean c.tell_delivery.ensures.same clean) in
          let is = c.tell_delivery.ensures.same ∙ here.1 in
          let done = done_behind view c.args.self.now.held c.reach.new.self.held c.deliver.new.self (delivery_of c.args.request.now (terms when c.reach.new.self.settings)) c.in-Some.answer kept kept
          (still_then view c.args.self.now.held c.may_ask.new.self.held c.reach.new.self.held c.may_ask.ensures.shown c.reach.ensures.shown) (c.in-Some.ensures kept (subst g.H.MailStore.clean is clean)) in
          subst (λ held. IsEventDone view [] (delivery_of c.args.request.now (terms when c.reach.new.self.settings)) told c.args.self.now.held kept held kept) (sym is)
          (told_done view c.args.request.now (terms when c.reach.new.self.settings) c.in-Some.answer told _ c.args.self.now.held c.deliver.new.self kept (c.tell_delivery.ensures.told here.0) done)),
    )

pub returns-in-None : goal.returns-in-None
returns-in-None g c = (
  c.at.result.when,
  (subst (GivesNext g.S.HostSystem.showed c.args.self.now.system) (sym c.at.ensures.moment) (c.seconds.new.self, c.seconds.ensures), subst (λ m. IsOffsetAt c.args.self.now.settings.zone m c.at.result.when.zone) (sym c.at.ensures.moment) c.at.ensures.zone),
  λ kept.
      let view = g.H.MailStore.view in
      nothing_behind view c.args.self.now.held c.reach.new.self.held c.deliver.new.self kept kept
      (still_then view c.args.self.now.held c.may_ask.new.self.held c.reach.new.self.held c.may_ask.ensures.shown c.reach.ensures.shown) (c.in-None.ensures kept),
)

pub returns-then-not-may_ask : goal.returns-then-not-may_ask
returns-then-not-may_ask g c = (
  c.at.result.when,
  (subst (GivesNext g.S.HostSystem.showed c.args.self.now.system) (sym c.at.ensures.moment) (c.seconds.new.self, c.seconds.ensures), subst (λ m. IsOffsetAt c.args.self.now.settings.zone m c.at.result.when.zone) (sym c.at.ensures.moment) c.at.ensures.zone),
  λ kept. record { shown = c.may_ask.ensures.shown; kept = λ sessions has. has },
)
