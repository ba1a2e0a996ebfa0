-- What was done to the store that was reached, behind calls that changed no account and left the settings.
use Rattle.std.proofs.Common.{◌≡◌, ◌∙◌, Some, subst, sym}
use Rattle.store_engine.specs.Terms.{terms}
use Rattle.daemon_core.proofs.StillLemmas.{still_then}
use Rattle.mail_dates.specs.HostZones.{IsOffsetAt}
use Rattle.daemon_host.specs.Moments.{GivesNext}
use Rattle.daemon_host.specs.Held.{HostDelivers}
use Rattle.daemon_host.proofs.TogetherLemmas.{delivers_behind, delivers_told}
use Rattle.daemon_host.proofs.host.Host.try_deliver_all.Goals as goal

pub returns-in-Some : goal.returns-in-Some
returns-in-Some g c =
    let view = g.H.MailStore.view in
    let clean = g.H.MailStore.clean in
    let when = c.at.result.when in
    let told = c.tell_deliveries.result in
    let requests = c.args.requests.now in
    let held = c.args.self.now.held in
    let here = terms when c.reach.new.self.settings in
    let same : c.reach.new.self.settings ≡ c.args.self.now.settings = c.reach.ensures.settings ∙ c.may_move.ensures.settings in
    let kept = c.is_kept-kept.ensures.kept in
    let still = still_then view held c.may_move.new.self.held c.reach.new.self.held c.may_move.ensures.shown c.reach.ensures.shown in (
      when,
      (subst (GivesNext g.S.HostSystem.showed c.args.self.now.system) (sym c.at.ensures.moment) (c.seconds-seconds.new.self, c.seconds-seconds.ensures), subst (λ m. IsOffsetAt c.args.self.now.settings.zone m when.zone) (sym c.at.ensures.moment) c.at.ensures.zone),
      subst (λ host. HostDelivers view clean (terms when host) requests (Some told) held c.tell_deliveries.new.self.held) same
          (delivers_told view clean here requests c.in-Some.answers told c.is_kept-kept.result held c.deliver_all.new.self c.tell_deliveries.new.self.held c.tell_deliveries.ensures.told c.tell_deliveries.ensures.lost
          (λ is. let it = kept (subst clean c.tell_deliveries.ensures.same is) in (it.0, c.tell_deliveries.ensures.same ∙ it.1))
          (delivers_behind view clean here requests c.in-Some.answers held c.reach.new.self.held c.deliver_all.new.self still c.in-Some.ensures)),
    )

pub returns-in-None : goal.returns-in-None
returns-in-None g c =
    let view = g.H.MailStore.view in
    let held = c.args.self.now.held in (
      c.at.result.when,
      (subst (GivesNext g.S.HostSystem.showed c.args.self.now.system) (sym c.at.ensures.moment) (c.seconds-seconds.new.self, c.seconds-seconds.ensures), subst (λ m. IsOffsetAt c.args.self.now.settings.zone m c.at.result.when.zone) (sym c.at.ensures.moment) c.at.ensures.zone),
      still_then view held c.reach.new.self.held c.deliver_all.new.self
          (still_then view held c.may_move.new.self.held c.reach.new.self.held c.may_move.ensures.shown c.reach.ensures.shown) c.in-None.ensures,
    )

pub returns-then-not-may_move : goal.returns-then-not-may_move
returns-then-not-may_move g c = (
  c.at.result.when,
  (subst (GivesNext g.S.HostSystem.showed c.args.self.now.system) (sym c.at.ensures.moment) (c.seconds-seconds.new.self, c.seconds-seconds.ensures), subst (λ m. IsOffsetAt c.args.self.now.settings.zone m c.at.result.when.zone) (sym c.at.ensures.moment) c.at.ensures.zone),
  c.may_move.ensures.shown,
)
