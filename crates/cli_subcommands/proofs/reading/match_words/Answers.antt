-- What `clap` answered, as it answered it.
use Rattle.cli_subcommands.specs.Asks.{was_matched}
use Rattle.cli_subcommands.proofs.reading.match_words.Goals as goal

pub returns-in_err-sieved : goal.returns-in_err-sieved
returns-in_err-sieved c = was_matched _ _

pub returns : goal.returns
returns c = was_matched _ _
