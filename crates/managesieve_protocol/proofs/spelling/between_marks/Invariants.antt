use Rattle.std.proofs.Common.{◌≡◌, ◌++◌, length}
use Rattle.managesieve_protocol.specs.Arguments.{inside}
use Rattle.managesieve_protocol.specs.Replies as s
use Rattle.managesieve_protocol.proofs.spelling.between_marks.Given as goal

abbrev pub invariant-loop-octet : goal.invariant-loop-octet
invariant-loop-octet l = record { goes_on : s.ExtendsText l.fn.out l.out; whole : l.out ++ inside l.rest ≡ l.fn.out ++ inside l.text }

abbrev pub decreases-loop-octet : goal.decreases-loop-octet
decreases-loop-octet l = length l.rest
