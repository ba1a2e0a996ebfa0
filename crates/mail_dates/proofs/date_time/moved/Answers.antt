use Rattle.std.proofs.Common.{◌≡◌, arith, w16, w64, FitsSigned, ◌∙◌, ℤ, pos, ◌+ℤ◌, ◌-ℤ◌}
use Rattle.std.proofs.lemmas.Int.{to_z-of_z, to_z_pos}
use Rattle.jiff_core.proofs.SignedLemmas.{signed_arith}
use Rattle.mail_dates.proofs.ClockLemmas.{nonnegative}
use Rattle.mail_dates.proofs.date_time.moved.Goals as goal

pub returns : goal.returns
returns c =
    let minutes = c.args.minutes in
    let old : FitsSigned w16 c.args.from = omega (arith, signed_arith, c.requires.from_in) in
    let new : FitsSigned w16 c.args.to = omega (arith, signed_arith, c.requires.to_in) in
    let a : c.from.result ≡ c.args.from = c.from.ensures ∙ to_z-of_z w16 c.args.from old in
    let b : c.from-2.result ≡ c.args.to = c.from-2.ensures ∙ to_z-of_z w16 c.args.to new in
    let less : FitsSigned w64 c.args.from = omega (arith, signed_arith, c.requires.from_in) in
    let more : FitsSigned w64 c.args.to = omega (arith, signed_arith, c.requires.to_in) in
    let low : ℤ = pos minutes -ℤ c.args.from in
    let between : FitsSigned w64 (pos minutes -ℤ c.args.from) = omega (arith, signed_arith, c.requires.from_in, c.requires.late) in
    let last : FitsSigned w64 ((pos minutes -ℤ c.args.from) +ℤ c.args.to) = omega (arith, signed_arith, c.requires.from_in, c.requires.to_in, c.requires.late) in
    rw (a, b, to_z_pos w64 minutes (omega (arith, c.requires.late)), to_z-of_z w64 c.args.from less, to_z-of_z w64 c.args.to more, to_z-of_z w64 (pos minutes -ℤ c.args.from) between, to_z-of_z w64 ((pos minutes -ℤ c.args.from) +ℤ c.args.to) last)
    (nonnegative ((pos minutes -ℤ c.args.from) +ℤ c.args.to) (omega (arith, signed_arith, c.requires.from_in, c.requires.to_in, c.requires.early)))
