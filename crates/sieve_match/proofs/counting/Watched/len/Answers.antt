use Rattle.std.proofs.Common.{ℕ, ◌<◌, List, slice_index, subst}
use Rattle.sieve_match.proofs.counting.Watched.len.Goals as goal

pub returns-clause-octets : goal.returns-clause-octets
returns-clause-octets c = λ k. subst (λ (v : List ℕ). slice_index v k < 256) c.self.view_is (c.self.invariant k)
