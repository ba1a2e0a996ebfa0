-- The program with its subcommands, as `clap` has them.
use Rattle.std.specs.Prelude.{◌≡◌, ℕ, List, map}
use Rattle.clap.specs.Words.{args_of}
use Rattle.clap.specs.declared.builder.command.Command.{Command}
use Rattle.cli_subcommands.specs.Ids.{argument_id}
use Rattle.cli_subcommands.specs.declared.subcommand_row.SubcommandRow.{SubcommandRow}

-- the names of a command's arguments, in their order
abbrev pub argument_names : Command → List (List ℕ)
argument_names command = map (λ arg. arg.id.now) (args_of command)

-- the command of a row: it has the row's arguments, in their order
abbrev pub IsCommandOf : SubcommandRow → Command → Type 0
IsCommandOf row command = argument_names command ≡ map argument_id row.arguments.now
