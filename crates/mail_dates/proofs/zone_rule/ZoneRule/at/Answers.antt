use Rattle.std.proofs.Common.{sym, subst}
use Rattle.jiff_core.specs.declared.offset.Offset.{Offset}
use Rattle.mail_dates.specs.Offsets.{IsWhole}
use Rattle.mail_dates.proofs.RuleLemmas.{offset_whole}
use Rattle.mail_dates.proofs.zone_rule.ZoneRule.at.Goals as goal

pub minutes_of-requires : goal.minutes_of-requires
minutes_of-requires c = subst (λ (offset : Offset). IsWhole offset.seconds) (sym c.to_offset.ensures) (offset_whole c.args.self.now.rule _ c.args.self.now.standard c.args.self.now.daylight)
