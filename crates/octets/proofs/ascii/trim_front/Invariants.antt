use Rattle.std.proofs.Common.{◌≡◌, length}
use Rattle.octets.specs.Ascii as ascii
use Rattle.octets.proofs.ascii.trim_front.Given as goal

abbrev pub invariant-loop-first : goal.invariant-loop-first
invariant-loop-first l = ascii.trim_front l.kept ≡ ascii.trim_front l.text

abbrev pub decreases-loop-first : goal.decreases-loop-first
decreases-loop-first l = length l.kept
