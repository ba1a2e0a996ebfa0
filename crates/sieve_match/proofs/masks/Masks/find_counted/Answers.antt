use Rattle.std.proofs.Common.{List, ℕ, ◌+◌, length, subst}
use Rattle.memchr.specs.Find.{IsFirst}
use Rattle.sieve_match.specs.Places.{FitsAt}
use Rattle.sieve_match.proofs.masks.Masks.find_counted.Goals as goal

pub returns-clause-found : goal.returns-clause-found
returns-clause-found g c fits n are =
    subst (λ (v : List ℕ). IsFirst (FitsAt fits n v) c.args.from (length v + 1) c.find_watched.result) c.new.ensures (c.find_watched.ensures.found fits n are)
