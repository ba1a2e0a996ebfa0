use Rattle.std.proofs.Common.{◌≡◌, ℕ, ◌+◌, ◌∷◌, List, drop, refl, sym, ap, subst, ◌∙◌, arith}
use Rattle.sieve_match.specs.Places.{AreMasks}
use Rattle.sieve_match.specs.Glob.{items}
use Rattle.sieve_match.specs.Segments.{takes, item_takes_at}
use Rattle.sieve_match.specs.declared.pattern.GlobItem.{GlobItem}
use Rattle.sieve_match.specs.declared.pattern.GlobItem.TheVariants.{Star}
use Rattle.sieve_match.proofs.Cursors.{item_at, left_after}
use Rattle.sieve_match.proofs.Patterns.{inside_pattern}
use Rattle.sieve_match.proofs.Steps.{segment_len-within, no_star}
use Rattle.sieve_match.proofs.parts.Segment.masks.Goals as goal
use Rattle.sieve_match.proofs.parts.Segment.masks.Goals.{in-One, in-Exact}

pub loop-j-init : goal.loop-j-init
loop-j-init g c = record { cursor = refl; known = c.new-masks.ensures _; cost = omega (arith, c.add.ensures) }

pub read_item-item-requires : goal.read_item-item-requires
read_item-item-requires g c =
    let self = c.args.self.now in
    let is : List GlobItem = items (drop self.from self.pattern.now) in
    inside_pattern self.pattern.now c.loop-j.place is c.loop-j.j c.loop-j.invariant.cursor
    (omega (arith, c.requires.segment.counted, segment_len-within is, c.loop-j-test.true))

pub returns-in-Star : goal.returns-in-Star
returns-in-Star g c =
    let self = c.args.self.now in
    let is : List GlobItem = items (drop self.from self.pattern.now) in
    let left : drop c.loop-j.j is ≡ c.read_item-item.result.0 ∷ items (drop c.read_item-item.result.1 self.pattern.now) =
    sym c.loop-j.invariant.cursor ∙ c.read_item-item.ensures.item in
    absurd (no_star is c.loop-j.j (omega (arith, c.requires.segment.counted, c.loop-j-test.true)) (item_at Star is c.loop-j.j _ _ left ∙ c.in-Star.is))

pub loop-j-preserved : goal.loop-j-preserved
loop-j-preserved g c =
    let f : ℕ → ℕ = g.C.Comparator.image_of in
    let self = c.args.self.now in
    let is : List GlobItem = items (drop self.from self.pattern.now) in
    let j : ℕ = c.loop-j.j in
    let left : drop j is ≡ c.read_item-item.result.0 ∷ items (drop c.read_item-item.result.1 self.pattern.now) =
    sym c.loop-j.invariant.cursor ∙ c.read_item-item.ensures.item in
    let here = item_at Star is j _ _ left in
    record {
      cursor = sym (left_after Star is j _ _ left);
      known = elim c.match-item.branch [
        | in-One w ↦ subst (AreMasks (item_takes_at f is) (j + 1)) (sym w.masks-is)
            (w.push_any.ensures (item_takes_at f is) j c.loop-j.invariant.known (λ b within. ap (λ i. takes f i b) (here ∙ w.in-One.is)))
        | in-Exact w ↦ subst (AreMasks (item_takes_at f is) (j + 1)) (sym w.masks-is)
            (w.push.ensures (item_takes_at f is) j c.loop-j.invariant.known (λ b within. ap (λ i. takes f i b) (here ∙ w.in-Exact.is)))
      ];
      cost = omega (arith, c.loop-j.invariant.cost, c.tick.ensures);
    }
