-- A word that isn't UTF-8 has a stand-in, and this one is no address.
use Rattle.cli_subcommands.specs.Asks.{has_no_text}
use Rattle.cli_subcommands.proofs.given.Given.is_text_elsewhere.Goals as goal

pub returns : goal.returns
returns c is = has_no_text _
