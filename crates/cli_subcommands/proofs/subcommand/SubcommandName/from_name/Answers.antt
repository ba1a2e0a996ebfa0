-- Each word was looked at.
use Rattle.cli_subcommands.specs.Ids.{is_no_subcommand}
use Rattle.cli_subcommands.proofs.subcommand.SubcommandName.from_name.Goals as goal

pub returns-clause-none : goal.returns-clause-none
returns-clause-none c is = is_no_subcommand _
