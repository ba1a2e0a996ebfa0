-- The octets of an address are said by this function alone.
use Rattle.cli_subcommands.specs.Asks.{is_arg_address}
use Rattle.cli_subcommands.proofs.raw_args.RawArgs.address.Goals as goal

pub returns : goal.returns
returns c = is_arg_address _ _ _
