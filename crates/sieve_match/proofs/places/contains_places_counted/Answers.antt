use Rattle.std.proofs.Common.{sym, subst, slice_index, length, ◌↔◌, IsTrue, Bool}
use Rattle.sieve_match.specs.Comparators.{ContainsBy}
use Rattle.sieve_match.specs.Search.{fits_key}
use Rattle.sieve_match.proofs.Standing.{ContainsBy-found, stands_by_places}
use Rattle.sieve_match.proofs.places.contains_places_counted.Goals as goal

pub returns-clause-found : goal.returns-clause-found
returns-clause-found g c image key are =
    subst (λ (b : Bool). IsTrue b ↔ ContainsBy image key c.args.value.now) (sym c.is_some.ensures)
    (ContainsBy-found image key c.args.value.now c.find_counted.result
    (stands_by_places image (slice_index key) (length key) c.args.value.now 0 c.find_counted.result (c.find_counted.ensures.found (fits_key image (slice_index key)) (length key) are)))
