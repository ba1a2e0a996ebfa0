use Rattle.std.proofs.Common.{◌≡◌, ℕ, ◌+◌, ◌∷◌, List, drop, get_or, sym, ap, subst, ◌∙◌, ⊎_elim, arith}
use Rattle.std.proofs.lemmas.Bool.{cases_lt, false≢true}
use Rattle.sieve_match.specs.Glob.{items}
use Rattle.sieve_match.specs.Segments.{segment_len, item_octet}
use Rattle.sieve_match.specs.declared.pattern.GlobItem.{GlobItem}
use Rattle.sieve_match.specs.declared.pattern.GlobItem.TheVariants.{Star, Exact}
use Rattle.sieve_match.proofs.Cursors.{item_at, left_after}
use Rattle.sieve_match.proofs.Patterns.{items-past, Exact-octet}
use Rattle.sieve_match.proofs.Steps.{segment_len-nil, segment_len-star, segment_len-one, segment_len-exact}
use Rattle.sieve_match.proofs.Counts.{has_question}
use Rattle.sieve_match.proofs.parts.Segment.read.Goals as goal
use Rattle.sieve_match.proofs.parts.Segment.read.Goals.{in-One, in-Exact, else-loop-end-test, then-loop-end-test+in-Star}

pub loop-end-preserved : goal.loop-end-preserved
loop-end-preserved g c =
    let old = c.loop-end.invariant in
    let read = c.read_item-item.ensures in
    let is : List GlobItem = items (drop c.args.from c.args.pattern.now) in
    let item : GlobItem = c.read_item-item.result.0 in
    let count : ℕ = c.loop-end.count in
    let after : List GlobItem = items (drop c.read_item-item.result.1 c.args.pattern.now) in
    let left : drop count is ≡ item ∷ after = sym old.rest ∙ read.item in
    let here : get_or is count Star ≡ item = item_at Star is count item after left in
    let low = old.low in
    let few = old.few in
    let later = read.later in
    let one_more : segment_len (item ∷ after) ≡ segment_len after + 1 = elim c.match-item.branch [
      | in-One w ↦ ap (λ (i : GlobItem). segment_len (i ∷ after)) w.in-One.is ∙ segment_len-one after
      | in-Exact w ↦ ap (λ (i : GlobItem). segment_len (i ∷ after)) w.in-Exact.is ∙ segment_len-exact w.in-Exact.field-0 after
    ] in
    record {
      low = omega arith;
      high = read.within;
      few = omega arith;
      rest = sym (left_after Star is count item after left);
      counted = omega (arith, old.counted, ap segment_len read.item, one_more);
      literal = λ yes j l. elim c.match-item.branch [
        | in-One w ↦ absurd (false≢true (sym w.literal-is ∙ yes))
        | in-Exact w ↦ ⊎_elim
            (λ before. old.literal (sym w.literal-is ∙ yes) j before)
            (λ from.
            let last : count ≡ j = omega arith in
            subst (λ n. get_or is n Star ≡ Exact (item_octet (get_or is n Star))) last (Exact-octet (get_or is count Star) w.in-Exact.field-0 (here ∙ w.in-Exact.is)))
            (cases_lt j count)
      ];
      spelled = omega (arith, old.spelled);
      question = λ no. elim c.match-item.branch [
        | in-One w ↦ has_question c.args.pattern.now c.loop-end.end c.loop-end-test.true (read.question w.in-One.is)
        | in-Exact w ↦ old.question (sym w.literal-is ∙ no)
      ];
      some = λ no. omega arith;
      cost = omega (arith, old.cost, c.tick.ensures);
      all = omega (arith, old.all, c.tick.ensures);
    }

pub returns-clause-segment : goal.returns-clause-segment
returns-clause-segment g c =
    let old = c.loop-end.invariant in
    let p : List ℕ = c.args.pattern.now in
    let end : ℕ = c.loop-end.end in
    let none_left : segment_len (items (drop end p)) ≡ 0 = elim c.loop-end-test.branch [
      | else-loop-end-test w ↦ ap segment_len (items-past p end w.loop-end-test.false) ∙ segment_len-nil
      | then-loop-end-test+in-Star w ↦ ap segment_len (w.read_item-item.ensures.item ∙ ap (λ (i : GlobItem). i ∷ items (drop w.read_item-item.result.1 p)) w.in-Star.is)
          ∙ segment_len-star (items (drop w.read_item-item.result.1 p))
    ] in
    record {
      from = old.low;
      end = old.high;
      counted = omega (arith, old.counted, none_left);
      rest = old.rest;
      star = λ inside. elim c.loop-end-test.branch [
        | else-loop-end-test w ↦ absurd (omega (arith, w.loop-end-test.false))
        | then-loop-end-test+in-Star w ↦ w.read_item-item.ensures.item
            ∙ ap (λ (i : GlobItem). i ∷ items (drop w.read_item-item.result.1 p)) w.in-Star.is
            ∙ ap (λ n. Star ∷ items (drop n p)) (w.read_item-item.ensures.star w.in-Star.is)
      ];
      literal = old.literal;
    }
