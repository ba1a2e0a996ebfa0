use Rattle.std.proofs.Common.{◌≡◌, length}
use Rattle.mail_parts.specs.MediaTypes.{parameter_of}
use Rattle.mail_parts.proofs.media_type.parameter.Given as goal

abbrev pub invariant-loop-letter : goal.invariant-loop-letter
invariant-loop-letter l = parameter_of l.name l.left ≡ parameter_of l.name l.letters

abbrev pub decreases-loop-letter : goal.decreases-loop-letter
decreases-loop-letter l = length l.left
