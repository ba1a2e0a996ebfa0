-- The settings that were copied, at the moment that was asked for.
use Rattle.std.proofs.Common.{◌∙◌, ap, subst, sym}
use Rattle.mail_dates.specs.HostZones.{IsOffsetAt}
use Rattle.store_engine.specs.Terms.{terms}
use Rattle.test_daemon.proofs.together.terms_at.Goals as goal

pub returns-in-Ok : goal.returns-in-Ok
returns-in-Ok c =
    let when = c.at-lent.result.when in (
      when,
      subst (λ m. IsOffsetAt c.args.host.now.zone m when.zone) (sym c.at-lent.ensures.moment) c.at-lent.ensures.zone,
      ap (λ host. terms when host) (c.in-Ok.ensures ∙ c.at-lent.ensures.host),
    )
