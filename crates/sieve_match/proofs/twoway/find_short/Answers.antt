use Rattle.std.proofs.Common.{ℕ}
use Rattle.sieve_match.specs.Search.{fits_key}
use Rattle.sieve_match.proofs.Standing.{stands_by_places}
use Rattle.sieve_match.proofs.twoway.find_short.Goals as goal

pub returns-clause-found : goal.returns-clause-found
returns-clause-found g c =
    let f : ℕ → ℕ = g.C.Comparator.image_of in
    let octets : ℕ → ℕ = g.K.Key.octet_at c.args.key.now in
    let m : ℕ = g.K.Key.size c.args.key.now in
    stands_by_places f octets m c.args.value.now c.args.from c.find_watched.result (c.find_watched.ensures.found (fits_key f octets) m c.masks_of-masks.ensures.masks)
