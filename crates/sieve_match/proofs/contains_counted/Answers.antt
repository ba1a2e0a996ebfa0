use Rattle.std.proofs.Common.{sym, subst, ◌↔◌, IsTrue, Bool}
use Rattle.sieve_match.specs.Comparators.{ContainsBy}
use Rattle.sieve_match.proofs.Standing.{ContainsBy-found}
use Rattle.sieve_match.proofs.contains_counted.Goals as goal

pub returns-clause-found : goal.returns-clause-found
returns-clause-found g c =
    subst (λ (b : Bool). IsTrue b ↔ ContainsBy g.C.Comparator.image_of c.args.key.now c.args.value.now) (sym c.is_some.ensures)
    (ContainsBy-found g.C.Comparator.image_of c.args.key.now c.args.value.now c.find_counted.result c.find_counted.ensures.found)
