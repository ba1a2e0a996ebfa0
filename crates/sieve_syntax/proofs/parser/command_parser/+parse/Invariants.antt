use Rattle.std.proofs.Common.{◌≡◌, ◌+◌, ◌*◌, ◌++◌, List, length, map}
use Rattle.sieve_syntax.specs.Capabilities.{granted_by}
use Rattle.sieve_syntax.specs.Tree.{TestTree, CommandTree, Commands}
use Rattle.sieve_syntax.specs.View.{command_view, branch_view}
use Rattle.sieve_syntax.specs.Steps.{TakesCommand, TakesElsif, IsPastElsif, IsStop}
use Rattle.sieve_syntax.proofs.Chains.{IsSoFar}
use Rattle.sieve_syntax.proofs.parser.command_parser.+parse.Given as goal

abbrev pub decreases-read_commands : goal.decreases-read_commands
decreases-read_commands l = 8 * l.room + 5

abbrev pub decreases-read_command : goal.decreases-read_command
decreases-read_command l = 8 * l.room + 4

abbrev pub decreases-read_if : goal.decreases-read_if
decreases-read_if l = 8 * l.room + 3

abbrev pub decreases-read_elsifs : goal.decreases-read_elsifs
decreases-read_elsifs l = 8 * l.room + 2

abbrev pub decreases-read_else : goal.decreases-read_else
decreases-read_else l = 8 * l.room + 1

abbrev pub decreases-read_branch : goal.decreases-read_branch
decreases-read_branch l = 8 * l.room + 1

abbrev pub decreases-read_block : goal.decreases-read_block
decreases-read_block l = 8 * l.room

abbrev pub invariant-read_commands-commands : goal.invariant-read_commands-commands
invariant-read_commands-commands l =
    (more : List CommandTree) × ((map command_view l.commands.items ≡ map command_view l.initial.commands.items ++ more)
    × IsSoFar (TakesCommand (granted_by l.granted) l.room) IsStop l.initial.reader more l.reader)

abbrev pub decreases-read_commands-commands : goal.decreases-read_commands-commands
decreases-read_commands-commands l = length l.reader

abbrev pub invariant-read_elsifs-elsifs : goal.invariant-read_elsifs-elsifs
invariant-read_elsifs-elsifs l =
    (each : List (TestTree × Commands)) × ((map branch_view l.branches.items ≡ map branch_view l.initial.branches.items ++ each)
    × IsSoFar (TakesElsif (granted_by l.granted) l.room) IsPastElsif l.initial.reader each l.reader)

abbrev pub decreases-read_elsifs-elsifs : goal.decreases-read_elsifs-elsifs
decreases-read_elsifs-elsifs l = length l.reader
