use Rattle.std.proofs.Common.{◌≡◌, [], ◌∷◌, ◌++◌, length}
use Rattle.managesieve_protocol.specs.Machine.{begins}
use Rattle.managesieve_protocol.proofs.command_name.goes_on.Given as goal

abbrev pub invariant-loop-next : goal.invariant-loop-next
invariant-loop-next l = begins (l.unread ++ l.letter ∷ []) l.wanted ≡ begins (l.letters ++ l.letter ∷ []) l.word

abbrev pub decreases-loop-next : goal.decreases-loop-next
decreases-loop-next l = length l.unread
