use Rattle.std.proofs.Common.{ℕ, ◌+◌, List, length, drop, get_or, slice_index}
use Rattle.memchr.proofs.lemmas.FindLemmas.{IsFirst-agree}
use Rattle.sieve_match.specs.Places.{FitsAt}
use Rattle.sieve_match.specs.Glob.{items}
use Rattle.sieve_match.specs.Segments.{item_takes_at, ItemsStandAt}
use Rattle.sieve_match.specs.declared.pattern.GlobItem.{GlobItem}
use Rattle.sieve_match.specs.declared.pattern.GlobItem.TheVariants.{Star}
use Rattle.sieve_match.proofs.Steps.{takes-Takes, Takes-takes}
use Rattle.sieve_match.proofs.parts.Segment.find_short.Goals as goal

pub returns-clause-found : goal.returns-clause-found
returns-clause-found g c =
    let f : ℕ → ℕ = g.C.Comparator.image_of in
    let self = c.args.self.now in
    let v : List ℕ = c.args.value.now in
    let is : List GlobItem = items (drop self.from self.pattern.now) in
    IsFirst-agree (FitsAt (item_takes_at f is) self.count v) (ItemsStandAt f is self.count v) c.args.from (length v + 1)
    (λ k l h. record { fits = h.within; takes = λ j b. takes-Takes f (get_or is j Star) (slice_index v (k + j)) (h.each j b) })
    (λ k l h. record { within = h.fits; each = λ j b. Takes-takes f (get_or is j Star) (slice_index v (k + j)) (h.takes j b) })
    c.find_watched.result (c.find_watched.ensures.found (item_takes_at f is) self.count c.masks-masks.ensures.masks)
