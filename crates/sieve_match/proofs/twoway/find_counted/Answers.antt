use Rattle.std.proofs.Common.{List, ℕ, subst}
use Rattle.sieve_match.specs.Search.{FindsKey}
use Rattle.sieve_match.proofs.twoway.find_counted.Goals as goal

pub returns-clause-found : goal.returns-clause-found
returns-clause-found g c =
    subst (λ (v : List ℕ). FindsKey g.C.Comparator.image_of (g.K.Key.octet_at c.args.key.now) (g.K.Key.size c.args.key.now) v c.args.from c.find_watched.result)
    c.new.ensures c.find_watched.ensures.found
