use Rattle.std.proofs.Common.{◌≡◌, ℤ, None, Some, sym, ◌∙◌}
use Rattle.mail_dates.specs.declared.host_zone.HostZone.TheVariants.{Always, ByRule}
use Rattle.mail_dates.proofs.RuleLemmas.{daylight_read}
use Rattle.jiff_tz.specs.PosixText.{tz_view}
use Rattle.mail_dates.proofs.host_zone.HostZone.read.Goals as goal

pub returns-in-None-clause-none : goal.returns-in-None-clause-none
returns-in-None-clause-none c (Always offset) is = let no : None ≡ Some offset.minutes = sym c.in_default.is ∙ c.read_zone.ensures.is ∙ is in cc
returns-in-None-clause-none c (ByRule zone) is = c.in-None.ensures.none (tz_view zone.rule) is.1 (zone.standard, daylight_read zone.rule.dst zone.daylight)
