use Rattle.std.proofs.Common.{◌≡◌, [], ◌∷◌, ◌++◌, length}
use Rattle.managesieve_protocol.specs.Machine.{command_rows_of, begins_row}
use Rattle.managesieve_protocol.proofs.command_name.find_extending.Given as goal

abbrev pub invariant-loop-verb : goal.invariant-loop-verb
invariant-loop-verb l = begins_row (command_rows_of l.rest) (l.letters ++ l.letter ∷ []) ≡ begins_row (command_rows_of l.verbs) (l.letters ++ l.letter ∷ [])

abbrev pub decreases-loop-verb : goal.decreases-loop-verb
decreases-loop-verb l = length l.rest
