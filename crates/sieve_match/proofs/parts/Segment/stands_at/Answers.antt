use Rattle.std.proofs.Common.{◌≡◌, ℕ, ◌+◌, ◌∷◌, List, drop, get_or, sym, ap, ◌∙◌, arith, below_more}
use Rattle.std.proofs.lemmas.Bool.{false≢true}
use Rattle.sieve_match.specs.Glob.{items}
use Rattle.sieve_match.specs.declared.pattern.GlobItem.{GlobItem}
use Rattle.sieve_match.specs.declared.pattern.GlobItem.TheVariants.{Star}
use Rattle.sieve_match.proofs.Cursors.{item_at, left_after}
use Rattle.sieve_match.proofs.Patterns.{inside_pattern}
use Rattle.sieve_match.proofs.Steps.{segment_len-within, Takes-one, Takes-exact, Exact-takes, Star-takes}
use Rattle.sieve_match.proofs.parts.Segment.stands_at.Goals as goal
use Rattle.sieve_match.proofs.parts.Segment.stands_at.Goals.{in-One, in-Exact+else-image}

pub read_item-item-requires : goal.read_item-item-requires
read_item-item-requires g c =
    let self = c.args.self.now in
    let is : List GlobItem = items (drop self.from self.pattern.now) in
    inside_pattern self.pattern.now c.loop-j.place is c.loop-j.j c.loop-j.invariant.cursor
    (omega (arith, c.requires.segment.counted, segment_len-within is, c.loop-j-test.true))

pub returns-in-Star-clause-stands : goal.returns-in-Star-clause-stands
returns-in-Star-clause-stands g c =
    let self = c.args.self.now in
    let is : List GlobItem = items (drop self.from self.pattern.now) in
    let left : drop c.loop-j.j is ≡ c.read_item-item.result.0 ∷ items (drop c.read_item-item.result.1 self.pattern.now) =
    sym c.loop-j.invariant.cursor ∙ c.read_item-item.ensures.item in
    let here = item_at Star is c.loop-j.j _ _ left in (
      λ no. absurd (false≢true no),
      λ stands. absurd (Star-takes g.C.Comparator.image_of (get_or is c.loop-j.j Star) (get_or c.args.value.now (c.args.at + c.loop-j.j) 0) (here ∙ c.in-Star.is)
          (stands.takes c.loop-j.j c.loop-j-test.true)),
    )

pub returns-then-image-clause-stands : goal.returns-then-image-clause-stands
returns-then-image-clause-stands g c =
    let self = c.args.self.now in
    let is : List GlobItem = items (drop self.from self.pattern.now) in
    let left : drop c.loop-j.j is ≡ c.read_item-item.result.0 ∷ items (drop c.read_item-item.result.1 self.pattern.now) =
    sym c.loop-j.invariant.cursor ∙ c.read_item-item.ensures.item in
    let here = item_at Star is c.loop-j.j _ _ left in (
      λ no. absurd (false≢true no),
      λ stands. absurd (c.if-image.true (c.image.ensures
          ∙ Exact-takes g.C.Comparator.image_of (get_or is c.loop-j.j Star) c.in-Exact.octet (get_or c.args.value.now (c.args.at + c.loop-j.j) 0) (here ∙ c.in-Exact.is)
          (stands.takes c.loop-j.j c.loop-j-test.true)
          ∙ sym (c.image-in-Exact.ensures ∙ ap g.C.Comparator.image_of c.octet-seen.ensures.octet))),
    )

pub loop-j-preserved : goal.loop-j-preserved
loop-j-preserved g c =
    let f : ℕ → ℕ = g.C.Comparator.image_of in
    let self = c.args.self.now in
    let is : List GlobItem = items (drop self.from self.pattern.now) in
    let j : ℕ = c.loop-j.j in
    let x : ℕ = get_or c.args.value.now (c.args.at + j) 0 in
    let left : drop j is ≡ c.read_item-item.result.0 ∷ items (drop c.read_item-item.result.1 self.pattern.now) =
    sym c.loop-j.invariant.cursor ∙ c.read_item-item.ensures.item in
    let here = item_at Star is j _ _ left in
    record {
      cursor = sym (left_after Star is j _ _ left);
      same = below_more _ _ c.loop-j.invariant.same (elim c.match-item.branch [
        | in-One w ↦ Takes-one f (get_or is j Star) x (here ∙ w.in-One.is)
        | in-Exact+else-image w ↦ Takes-exact f (get_or is j Star) w.in-Exact.octet x (here ∙ w.in-Exact.is)
            (sym w.image.ensures ∙ w.if-image.false ∙ w.image-in-Exact.ensures ∙ ap f c.octet-seen.ensures.octet)
      ]);
      cost = omega (arith, c.loop-j.invariant.cost, c.octet-seen.ensures.cost);
    }
