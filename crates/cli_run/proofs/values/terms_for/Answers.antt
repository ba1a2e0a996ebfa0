-- The moment and the zone are those of the words, and what is none is told.
use Rattle.std.proofs.Common.{inl, inr, ap, sym, subst}
use Rattle.std.specs.Option.{option_copied}
use Rattle.mail_dates.specs.HostZones.{IsOffsetAt}
use Rattle.store_engine.specs.declared.terms.HostSettings.{HostSettings}
use Rattle.cli_run.specs.Values.{IsGivenMoment, IsHostZone}
use Rattle.cli_run.proofs.values.terms_for.Goals as goal

pub returns-clause-ok : goal.returns-clause-ok
returns-clause-ok c =
    let it = c.into_terms.result in
    let is = c.into_terms.ensures.host in
    let moment = c.into_terms.ensures.moment in
    record {
      dated = subst (IsGivenMoment (option_copied c.args.at) c.args.clock) (sym moment) c.in_ok-moment.ensures.ok;
      zoned = subst (λ (host : HostSettings). IsHostZone (option_copied c.args.zone) host.zone) (sym is) c.in_ok-zone.ensures.ok;
      clocked = subst (λ (host : HostSettings). IsOffsetAt host.zone it.when.moment it.when.zone) (sym is) (subst (λ n. IsOffsetAt c.in_ok-zone.zone n it.when.zone) (sym moment) c.into_terms.ensures.zone);
      scripted = ap (λ (host : HostSettings). host.default) is;
      surrounded = ap (λ (host : HostSettings). host.scripts) is;
    }

pub returns-clause-right : goal.returns-clause-right
returns-clause-right c bad = elim bad [ inl number ↦ c.in_ok-moment.ensures.right number | inr zone ↦ c.in_ok-zone.ensures.right zone ]
