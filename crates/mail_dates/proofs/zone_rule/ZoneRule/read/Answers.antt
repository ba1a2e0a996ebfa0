use Rattle.std.proofs.Common.{IsTrue, false, subst}
use Rattle.mail_dates.proofs.RuleLemmas.{part_rule, not_true}
use Rattle.mail_dates.proofs.zone_rule.ZoneRule.read.Goals as goal
use Rattle.mail_dates.proofs.zone_rule.ZoneRule.read.Goals.{else-is_whole-via-then-is_whole+else-has_whole_daylight, else-is_whole-via-else-is_whole}

pub returns-else-is_whole-clause-none : goal.returns-else-is_whole-clause-none
returns-else-is_whole-clause-none c read is whole =
    let parts = part_rule c.args.text.now c.in-Ok.rule read c.in-Ok.ensures.value is whole in
    elim c.else-is_whole.branch [
      | else-is_whole-via-then-is_whole+else-has_whole_daylight w ↦ not_true w.has_whole_daylight.result w.if-has_whole_daylight.false (w.has_whole_daylight.ensures.1 parts.1)
      | else-is_whole-via-else-is_whole w ↦ not_true c.is_whole.result w.if-is_whole.false (c.is_whole.ensures.1 parts.0)
    ]
