use Rattle.std.proofs.Common.{length}
use Rattle.sieve_plan.proofs.kept.KeptScripts.make_room.Given as goal

abbrev pub decreases-loop-self : goal.decreases-loop-self
decreases-loop-self l = length l.self
