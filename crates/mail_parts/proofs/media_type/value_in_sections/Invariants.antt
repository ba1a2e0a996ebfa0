use Rattle.std.proofs.Common.{◌≡◌, ◌++◌, Some, length}
use Rattle.mail_parts.specs.MediaTypes.{value_sections, value_in_sections}
use Rattle.mail_parts.proofs.media_type.value_in_sections.Given as goal

abbrev pub invariant-loop-digit : goal.invariant-loop-digit
invariant-loop-digit l = Some (l.value ++ value_sections l.name l.letters l.left) ≡ value_in_sections l.name l.letters

abbrev pub decreases-loop-digit : goal.decreases-loop-digit
decreases-loop-digit l = length l.left
