-- A word that isn't UTF-8 has a stand-in.
use Rattle.cli_subcommands.specs.Asks.{has_no_text}
use Rattle.cli_subcommands.proofs.raw_args.RawArgs.has_stand_ins.Goals as goal

pub returns : goal.returns
returns c is = has_no_text _
