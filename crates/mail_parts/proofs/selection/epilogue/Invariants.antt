use Rattle.std.proofs.Common.{◌≡◌, length}
use Rattle.mail_head.specs.Lines.{lines_of}
use Rattle.mail_parts.specs.Sections.{epilogue_of}
use Rattle.mail_parts.proofs.selection.epilogue.Given as goal

abbrev pub invariant-sections : goal.invariant-sections
invariant-sections l = epilogue_of l.boundary (lines_of l.rest) ≡ epilogue_of l.boundary (lines_of l.text)

abbrev pub decreases-sections : goal.decreases-sections
decreases-sections l = length l.rest
