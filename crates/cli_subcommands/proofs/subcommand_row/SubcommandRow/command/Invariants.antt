-- The command's arguments and those that are left are all the row's.
use Rattle.std.proofs.Common.{◌≡◌, ◌++◌, drop, map}
use Rattle.cli_subcommands.specs.Ids.{argument_id}
use Rattle.cli_subcommands.specs.Rows.{argument_names}
use Rattle.cli_subcommands.proofs.subcommand_row.SubcommandRow.command.Given as goal

abbrev pub invariant-loop-argument : goal.invariant-loop-argument
invariant-loop-argument l = argument_names l.command ++ map argument_id (drop l.argument-index l.self.arguments.now) ≡ map argument_id l.self.arguments.now
