use Rattle.std.proofs.Common.{◌≡◌, ◌++◌, length}
use Rattle.mail_parts.specs.QuotedPrintable.{quoted_body}
use Rattle.mail_parts.proofs.quoted_printable.decode_quoted.Given as goal

abbrev pub invariant-loop-rest : goal.invariant-loop-rest
invariant-loop-rest l = l.octets.items ++ quoted_body l.rest ≡ quoted_body l.body

abbrev pub decreases-loop-rest : goal.decreases-loop-rest
decreases-loop-rest l = length l.rest
