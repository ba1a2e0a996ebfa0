-- All are listed, where no moment is given.
use Rattle.std.proofs.Common.{true, subst, sym, None, Some}
use Rattle.std.specs.Option.{option_copied}
use Rattle.cli_run.specs.Serving.{HasDenied}
use Rattle.cli_run.specs.Subcommands.{DoesNotices}
use Rattle.cli_run.proofs.notices.run_all_notices.Goals as goal
use Rattle.cli_run.specs.Transitions.{from_to}

pub returns-in-None-clause-does : goal.returns-in-None-clause-does
returns-in-None-clause-does g c tells =
    subst (λ until. DoesNotices (HasDenied g.K.Keeper.refuses g.K.Keeper.will_wait c.args.location) true None (option_copied until) (from_to (g.W.Write.contents c.args.output.now) (g.W.Write.contents c.run_for_all.new.output)) c.run_for_all.result (from_to (g.K.Keeper.holds c.args.keeper.now) (g.K.Keeper.holds c.run_for_all.new.keeper))) (sym c.in-None.is) (c.run_for_all.ensures.does tells)
