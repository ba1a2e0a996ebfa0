use Rattle.std.proofs.Common.{length}
use Rattle.mail_parts.proofs.SectionLemmas.{HasPassed}
use Rattle.mail_parts.proofs.section.cut_section.Given as goal

abbrev pub invariant-lines : goal.invariant-lines
invariant-lines l = HasPassed l.boundary l.text l.rest

abbrev pub decreases-lines : goal.decreases-lines
decreases-lines l = length l.rest
