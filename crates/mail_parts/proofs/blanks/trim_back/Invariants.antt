use Rattle.std.proofs.Common.{◌≡◌, length}
use Rattle.octets.specs.Ascii as ascii
use Rattle.mail_parts.proofs.blanks.trim_back.Given as goal

abbrev pub invariant-loop-last : goal.invariant-loop-last
invariant-loop-last l = ascii.trim_back l.kept ≡ ascii.trim_back l.text

abbrev pub decreases-loop-last : goal.decreases-loop-last
decreases-loop-last l = length l.kept
