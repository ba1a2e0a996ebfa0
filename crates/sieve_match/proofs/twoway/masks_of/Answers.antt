use Rattle.std.proofs.Common.{◌≡◌, ◌==◌, ℕ, refl, subst, sym, arith}
use Rattle.sieve_match.specs.Places.{AreMasks}
use Rattle.sieve_match.specs.Search.{fits_key}
use Rattle.sieve_match.proofs.twoway.masks_of.Goals as goal

pub loop-spot-init : goal.loop-spot-init
loop-spot-init g c =
    let fits = fits_key g.C.Comparator.image_of (g.K.Key.octet_at c.args.key.now) in
    record {
      known = subst (λ n. AreMasks fits n c.new-masks.result) (sym c.first-spot.ensures.index) (c.new-masks.ensures fits);
      within = omega (arith, c.first-spot.ensures.index);
      spot = c.first-spot.ensures.spot;
      cost = omega (arith, c.first-spot.ensures.index, c.add.ensures);
    }

pub loop-spot-preserved : goal.loop-spot-preserved
loop-spot-preserved g c =
    let f : ℕ → ℕ = g.C.Comparator.image_of in
    let fits = fits_key f (g.K.Key.octet_at c.args.key.now) in
    let index = c.loop-spot.spot.index in
    record {
      known = subst (λ n. AreMasks fits n c.push.new.self) (sym c.next-spot.ensures.index)
          (c.push.ensures fits index c.loop-spot.invariant.known
          (λ b within. subst (λ o. fits index b ≡ (f o == f b)) (sym c.octet.ensures) refl));
      within = omega (arith, c.next-spot.ensures.index, c.loop-spot-test.true, c.len.ensures);
      spot = c.next-spot.ensures.spot;
      cost = omega (arith, c.next-spot.ensures.index, c.loop-spot.invariant.cost, c.tick.ensures);
    }

pub returns-clause-masks : goal.returns-clause-masks
returns-clause-masks g c =
    let fits = fits_key g.C.Comparator.image_of (g.K.Key.octet_at c.args.key.now) in
    let whole : c.loop-spot.spot.index ≡ g.K.Key.size c.args.key.now = omega (arith, c.loop-spot.invariant.within, c.loop-spot-test.false, c.len.ensures) in
    subst (λ n. AreMasks fits n c.loop-spot.masks) whole c.loop-spot.invariant.known
