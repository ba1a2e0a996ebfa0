use Rattle.std.proofs.Common.{◌≡◌, ◌≤◌, false, drop}
use Rattle.mail_dates.specs.Reading.{after_gap}
use Rattle.mail_dates.proofs.pieces.after_gap.Given as goal

abbrev pub invariant-loop-i : goal.invariant-loop-i
invariant-loop-i l = (l.depth ≤ l.i) × (after_gap l.depth l.escaped (drop l.i l.text) ≡ after_gap 0 false l.text)
