-- All are listed where no number is given.
use Rattle.std.proofs.Common.{false, subst, sym, None, Some}
use Rattle.std.specs.Option.{option_copied}
use Rattle.cli_run.specs.Serving.{HasDenied}
use Rattle.cli_run.specs.Subcommands.{DoesQueue}
use Rattle.cli_run.proofs.queue.run_queue_of.Goals as goal
use Rattle.cli_run.specs.Transitions.{from_to}

pub returns-in-None-clause-does : goal.returns-in-None-clause-does
returns-in-None-clause-does g c tells =
    subst (λ id. DoesQueue (HasDenied g.K.Keeper.refuses g.K.Keeper.will_wait c.args.location) false (Some c.args.user.now) (option_copied id) (from_to (g.W.Write.contents c.args.output.now) (g.W.Write.contents c.run_listing.new.output)) c.run_listing.result (from_to (g.K.Keeper.holds c.args.keeper.now) (g.K.Keeper.holds c.run_listing.new.keeper))) (sym c.in-None.is) (c.run_listing.ensures.does tells)

pub returns-in-Some-clause-does : goal.returns-in-Some-clause-does
returns-in-Some-clause-does g c tells =
    subst (λ id. DoesQueue (HasDenied g.K.Keeper.refuses g.K.Keeper.will_wait c.args.location) false (Some c.args.user.now) (option_copied id) (from_to (g.W.Write.contents c.args.output.now) (g.W.Write.contents c.run_queued.new.output)) c.run_queued.result (from_to (g.K.Keeper.holds c.args.keeper.now) (g.K.Keeper.holds c.run_queued.new.keeper))) (sym c.in-Some.is) (c.run_queued.ensures.does tells)
