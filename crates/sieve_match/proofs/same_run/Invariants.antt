use Rattle.std.proofs.Common.{◌↔◌, IsTrue}
use Rattle.sieve_match.specs.Comparators.{SameFrom}
use Rattle.sieve_match.proofs.same_run.Given as goal

abbrev pub invariant-loop-k : goal.invariant-loop-k
invariant-loop-k g l = IsTrue l.same ↔ SameFrom g.C.Comparator.image_of l.key l.value l.from l.k
