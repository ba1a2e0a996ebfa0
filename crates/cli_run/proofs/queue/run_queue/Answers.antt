-- A user is given, or all are asked for, and not both.
use Rattle.std.proofs.Common.{true, subst, sym}
use Rattle.std.specs.Option.{option_copied}
use Rattle.cli_run.specs.Serving.{HasDenied}
use Rattle.cli_run.specs.Subcommands.{DoesQueue}
use Rattle.cli_run.proofs.queue.run_queue.Goals as goal
use Rattle.cli_run.specs.Transitions.{from_to}

pub returns-in-None-clause-does : goal.returns-in-None-clause-does
returns-in-None-clause-does g c tells =
    let Denied = HasDenied g.K.Keeper.refuses g.K.Keeper.will_wait c.args.asked.location in
    let made = g.W.Write.contents c.run_all_queues.new.output in
    let left = g.K.Keeper.holds c.run_all_queues.new.keeper in
    subst (λ all. DoesQueue Denied all (option_copied c.args.asked.user) (option_copied c.args.asked.id) (from_to (g.W.Write.contents c.args.output.now) made) c.run_all_queues.result (from_to (g.K.Keeper.holds c.args.keeper.now) left)) (sym c.if-asked.true)
    (subst (λ user. DoesQueue Denied true (option_copied user) (option_copied c.args.asked.id) (from_to (g.W.Write.contents c.args.output.now) made) c.run_all_queues.result (from_to (g.K.Keeper.holds c.args.keeper.now) left)) (sym c.in-None.is) (c.run_all_queues.ensures.does tells))
