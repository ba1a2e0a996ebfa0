use Rattle.std.proofs.Common.{◌≡◌, ◌≤◌, false, drop}
use Rattle.mail_address.specs.Reading.{after_comment}
use Rattle.mail_address.proofs.scanner.comment_len.Given as goal

abbrev pub invariant-loop-i : goal.invariant-loop-i
invariant-loop-i l = (l.depth ≤ l.i) × (after_comment l.depth l.escaped (drop l.i l.inside) ≡ after_comment 0 false l.inside)
