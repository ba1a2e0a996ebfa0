use Rattle.std.proofs.Common.{◌≡◌, ◌++◌, length}
use Rattle.mail_head.specs.Lines.{end_of}
use Rattle.mail_parts.proofs.quoted_printable.push_end.Given as goal

abbrev pub invariant-loop-first : goal.invariant-loop-first
invariant-loop-first l = l.octets.items ++ l.left ≡ l.fn.octets.items ++ end_of l.line

abbrev pub decreases-loop-first : goal.decreases-loop-first
decreases-loop-first l = length l.left
