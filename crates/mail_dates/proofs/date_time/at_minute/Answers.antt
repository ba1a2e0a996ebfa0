use Rattle.std.proofs.Common.{arith, w16, FitsSigned}
use Rattle.std.proofs.lemmas.Int.{to_z-of_z}
use Rattle.jiff_core.proofs.SignedLemmas.{signed_arith}
use Rattle.mail_dates.proofs.ClockLemmas.{clock_past, clock_before, clock_made}
use Rattle.mail_dates.proofs.date_time.at_minute.Goals as goal

pub returns-then-days-gt-LAST_DAY : goal.returns-then-days-gt-LAST_DAY
returns-then-days-gt-LAST_DAY c date is = clock_past c.args.minutes c.args.second c.args.zone date c.if-days-gt-LAST_DAY.true is

pub returns-in_err-year : goal.returns-in_err-year
returns-in_err-year c = rw c.from_residual.ensures (λ date is. clock_before c.args.minutes c.args.second c.args.zone date c.from_days_since_min-day.result c.from_days_since_min-day.ensures c.in_err-year.ensures is)

pub returns : goal.returns
returns c =
    let fits : FitsSigned w16 c.args.zone = omega (arith, signed_arith, c.requires.zone_in) in
    clock_made c.args.minutes c.args.second c.in_ok-year.year c.from_days_since_min-day.result c.args.zone _ c.from_days_since_min-day.ensures c.in_ok-year.ensures (to_z-of_z w16 c.args.zone fits) c.requires.second_in c.requires.zone_in
