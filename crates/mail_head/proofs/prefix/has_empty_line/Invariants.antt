-- So far no line is empty.
use Rattle.std.proofs.Common.{◌≡◌, length}
use Rattle.mail_head.specs.Prefixes.{has_empty_line}
use Rattle.mail_head.proofs.prefix.has_empty_line.Given as goal

abbrev pub invariant-loop-rest : goal.invariant-loop-rest
invariant-loop-rest l = has_empty_line l.rest ≡ has_empty_line l.text

abbrev pub decreases-loop-rest : goal.decreases-loop-rest
decreases-loop-rest l = length l.rest
