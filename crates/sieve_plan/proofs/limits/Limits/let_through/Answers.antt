use Rattle.sieve_plan.proofs.PlanLemmas.{three_limits}
use Rattle.sieve_plan.proofs.limits.Limits.let_through.Goals as goal

pub returns : goal.returns
returns c =
    three_limits c.args.self.room c.args.self.by_size c.args.self.left c.args.fresh c.first_ones-with_room.result c.first_ones-written.result c.first_ones.result c.first_ones-with_room.ensures c.first_ones-written.ensures c.first_ones.ensures
