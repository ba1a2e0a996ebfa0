use Rattle.std.proofs.Common.{arith, w16, FitsSigned}
use Rattle.std.proofs.lemmas.Int.{to_z-of_z}
use Rattle.jiff_core.proofs.SignedLemmas.{signed_arith}
use Rattle.mail_dates.proofs.ClockLemmas.{moment_in}
use Rattle.mail_dates.proofs.date_time.DateTime.in_zone.Goals as goal

pub returns : goal.returns
returns c =
    let old : FitsSigned w16 c.args.self.now.zone = omega (arith, signed_arith, c.requires.date.zone) in
    let new : FitsSigned w16 c.args.zone = omega (arith, signed_arith, c.requires.zone_in) in
    let shift = simp to_z-of_z at c.moved.ensures in
    moment_in c.args.self.now c.clock.result c.moved.result c.args.zone c.at_minute.result c.clock.ensures.is shift (simp to_z-of_z at c.at_minute.ensures)
