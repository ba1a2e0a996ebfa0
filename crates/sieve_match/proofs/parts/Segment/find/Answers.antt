use Rattle.std.proofs.Common.{◌≡◌, ℕ, suc, ◌+◌, ◌-◌, ◌*◌, List, length, drop, get_or, slice_index, sym, ap, ◌∙◌, arith, suc-mul}
use Rattle.std.proofs.lemmas.Bool.{false≢true}
use Rattle.memchr.proofs.lemmas.FindLemmas.{IsFirst-agree, Nowhere-more}
use Rattle.sieve_match.specs.Search.{StandsAt}
use Rattle.sieve_match.specs.Glob.{items}
use Rattle.sieve_match.specs.Segments.{item_octet, ItemsStandAt}
use Rattle.sieve_match.specs.declared.pattern.GlobItem.{GlobItem}
use Rattle.sieve_match.specs.declared.pattern.GlobItem.TheVariants.{Star}
use Rattle.sieve_match.proofs.Steps.{segment_len-within, Takes-exact, Exact-takes}
use Rattle.sieve_match.proofs.parts.Segment.find.Goals as goal

pub invariant_of-key : goal.invariant_of-key
invariant_of-key g c =
    let self = c.args.self.now in
    record { within = omega (arith, c.requires.segment.counted, segment_len-within (items (drop self.from self.pattern.now))) }

pub returns-then-self-clause-found : goal.returns-then-self-clause-found
returns-then-self-clause-found g c =
    let f : ℕ → ℕ = g.C.Comparator.image_of in
    let self = c.args.self.now in
    let v : List ℕ = c.args.value.now in
    let is : List GlobItem = items (drop self.from self.pattern.now) in
    let octets : ℕ → ℕ = λ k. item_octet (get_or is k Star) in
    let literal = c.requires.segment.literal c.if-self.true in
    IsFirst-agree (StandsAt f octets self.count v) (ItemsStandAt f is self.count v) c.args.from (length v + 1)
    (λ k l h. record {
      fits = h.fits;
      takes = λ j b. Takes-exact f (get_or is j Star) (octets j) (slice_index v (k + j)) (literal j b) (sym (h.reads j b));
    })
    (λ k l h. record {
      fits = h.fits;
      reads = λ j b. sym (Exact-takes f (get_or is j Star) (octets j) (slice_index v (k + j)) (literal j b) (h.takes j b));
    })
    c.find_watched.result c.find_watched.ensures.found

pub loop-at-preserved : goal.loop-at-preserved
loop-at-preserved g c =
    let cost = c.loop-at.invariant.cost in
    let more = c.stands_at.ensures.cost in
    let from = c.loop-at.auto.at in
    let place : c.loop-at.at + 1 - c.args.from ≡ suc (c.loop-at.at - c.args.from) = omega arith in
    let product = ap (λ n. n * c.args.self.now.count) place ∙ suc-mul (c.loop-at.at - c.args.from) c.args.self.now.count in
    record {
      none = Nowhere-more c.loop-at.invariant.none (λ stands. false≢true (c.if-stands_at.ensures.stands.1 stands));
      cost = omega (arith, product);
    }

pub returns-clause-found : goal.returns-clause-found
returns-clause-found g c = λ k low high. c.loop-at.invariant.none k low (omega (arith, c.loop-at-test.false))
