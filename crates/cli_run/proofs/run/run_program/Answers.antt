-- A run does what the arguments ask for as they were read, or tells what is wrong with them.
use Rattle.std.proofs.Common.{Ok, Err, refl, subst}
use Rattle.cli_subcommands.specs.Asks.{WasRead}
use Rattle.cli_run.proofs.run.run_program.Goals as goal

pub returns-in-Ok-clause-runs : goal.returns-in-Ok-clause-runs
returns-in-Ok-clause-runs g c tells = (Ok c.in-Ok.asked, subst (WasRead c.args.words.now) c.in-Ok.is c.read_command_line.ensures, c.run_subcommand.ensures.runs tells)

pub returns-in-Err-clause-runs : goal.returns-in-Err-clause-runs
returns-in-Err-clause-runs g c tells =
    let read = subst (WasRead c.args.words.now) c.in-Err.is c.read_command_line.ensures in
    (Err c.in-Err.error, read, (c.tell_unread.ensures, ((λ told. refl), refl), refl))
