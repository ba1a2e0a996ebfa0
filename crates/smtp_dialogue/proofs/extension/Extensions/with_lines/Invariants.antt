use Rattle.std.proofs.Common.{length}
use Rattle.smtp_dialogue.specs.Extensions.{OffersMore}
use Rattle.smtp_dialogue.proofs.extension.Extensions.with_lines.Given as goal

abbrev pub invariant-loop-count : goal.invariant-loop-count
invariant-loop-count l = (after : _) → OffersMore l.left l.offered after → OffersMore l.octets l.fn.self after

abbrev pub decreases-loop-count : goal.decreases-loop-count
decreases-loop-count l = length l.left
