use Rattle.std.proofs.Common.{arith, sym, ◌∙◌, ap, pos}
use Rattle.mail_dates.proofs.ClockLemmas.{clock_is, clock_early}
use Rattle.mail_dates.proofs.date_time.DateTime.clock.Goals as goal

pub returns-clause-is : goal.returns-clause-is
returns-clause-is c =
    clock_is c.args.self.now c.civil.result c.days_since_min-days.result (sym c.civil.ensures.0) (sym c.civil.ensures.1) (sym c.civil.ensures.2) c.days_since_min-days.ensures.value
    ∙ ap pos (omega (arith, c.from.ensures, c.from-2.ensures, c.from-3.ensures))

pub returns-clause-early : goal.returns-clause-early
returns-clause-early c =
    let days = clock_early c.args.self.now c.requires c.civil.result c.days_since_min-days.result (sym c.civil.ensures.0) (sym c.civil.ensures.1) (sym c.civil.ensures.2) c.days_since_min-days.ensures.value in
    omega (arith, days, c.from.ensures)
