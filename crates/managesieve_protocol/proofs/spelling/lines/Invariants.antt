use Rattle.std.proofs.Common.{◌≡◌, ◌++◌, length}
use Rattle.managesieve_protocol.specs.Replies as s
use Rattle.managesieve_protocol.proofs.spelling.lines.Given as goal

abbrev pub invariant-loop-next : goal.invariant-loop-next
invariant-loop-next l = record { goes_on : s.ExtendsText l.fn.out l.out; whole : l.out ++ s.lines_spelled l.rest ≡ l.fn.out ++ s.lines_spelled l.lines }

abbrev pub decreases-loop-next : goal.decreases-loop-next
decreases-loop-next l = length l.rest
