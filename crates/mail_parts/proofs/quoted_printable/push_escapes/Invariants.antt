use Rattle.std.proofs.Common.{◌≡◌, ◌++◌, length}
use Rattle.mail_parts.specs.QuotedPrintable.{escapes_from}
use Rattle.mail_parts.proofs.quoted_printable.push_escapes.Given as goal

abbrev pub invariant-loop-first : goal.invariant-loop-first
invariant-loop-first l = l.octets.items ++ escapes_from 0 l.left ≡ l.fn.octets.items ++ escapes_from 0 l.text

abbrev pub decreases-loop-first : goal.decreases-loop-first
decreases-loop-first l = length l.left
