use Rattle.std.proofs.Common.{◌≡◌, ℕ, get_or, ◌∙◌, ap, arith}
use Rattle.std.specs.Ordering.{nat_cmp}
use Rattle.sieve_match.proofs.SortingLemmas.{ended, differing}
use Rattle.sieve_match.proofs.order.compare.Goals as goal

pub returns-then-place-shorter : goal.returns-then-place-shorter
returns-then-place-shorter g c =
    ended g.C.Comparator.image_of c.args.one.now c.args.other.now c.same_to-place.result c.same_to-place.ensures.same (c.if-place-shorter.true ∙ c.min-shorter.ensures) c.cmp.result c.cmp.ensures

pub returns : goal.returns
returns g c =
    let f : ℕ → ℕ = g.C.Comparator.image_of in
    let one = c.args.one.now in
    let other = c.args.other.now in
    let place : ℕ = c.same_to-place.result in
    let within = c.same_to-place.ensures.within in
    let apart = c.if-place-shorter.false in
    let least = c.min-shorter.ensures in
    let compared : c.cmp-2.result ≡ nat_cmp (f (get_or one place 0)) (f (get_or other place 0)) =
    c.cmp-2.ensures ∙ ap (λ (a : ℕ). nat_cmp a c.image-right.result) c.image-left.ensures ∙ ap (λ (b : ℕ). nat_cmp (f (get_or one place 0)) b) c.image-right.ensures in
    differing f one other place c.same_to-place.ensures.same (omega arith) (omega arith) (c.same_to-place.ensures.differs (omega arith)) c.cmp-2.result compared
