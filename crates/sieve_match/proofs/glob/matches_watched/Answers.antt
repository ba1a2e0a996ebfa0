use Rattle.std.proofs.Common.{refl, ◌≡◌, ℕ, ◌+◌, ◌-◌, ◌<◌, ◌≤◌, ◌↔◌, IsTrue, List, [], ◌∷◌, length, drop, sym, ap, subst, ◌∙◌, arith}
use Rattle.std.proofs.lemmas.Bool.{false≢true, leb-true, eqb-true, eq-eqb}
use Rattle.sieve_match.specs.Glob.{items, Glob}
use Rattle.sieve_match.specs.Segments.{ItemsStandAt}
use Rattle.sieve_match.specs.declared.pattern.GlobItem.{GlobItem}
use Rattle.sieve_match.specs.declared.pattern.GlobItem.TheVariants.{Star}
use Rattle.sieve_match.proofs.Patterns.{items-past}
use Rattle.sieve_match.proofs.Steps.{Glob-nil, Glob-parts, head_serves, first_serves, none_serves, last_serves, last_fits}
use Rattle.std.specs.List.{list_any}
use Rattle.sieve_match.specs.Costs.{search_end, part_steps, is_long_key, is_question_mark}
use Rattle.sieve_match.proofs.Counts.{part_within, no_part, cost_first, cost_head, cost_more, cost_none, cost_last, cost_end}
use Rattle.sieve_match.proofs.glob.matches_watched.Goals as goal

-- the items that a segment was read from, in its own words
own_items : (p q : List ℕ) (n m : ℕ) → q ≡ p → m ≡ n → items (drop n p) ≡ items (drop m q)
own_items p q n m same at = ap (λ l. items (drop n l)) (sym same) ∙ ap (λ k. items (drop k q)) (sym at)

-- two equivalences in a row
chain : {P Q R : Type 0} → P ↔ Q → Q ↔ R → P ↔ R
chain a b = (λ p. b.0 (a.0 p), λ r. a.1 (b.1 r))

pub returns-then-not-stands_at-clause-matches : goal.returns-then-not-stands_at-clause-matches
returns-then-not-stands_at-clause-matches g c =
    let f : ℕ → ℕ = g.C.Comparator.image_of in
    let p : List ℕ = c.args.pattern.now in
    let v : List ℕ = c.args.value.now in
    let s = c.read-head.result in
    let read = c.read-head.ensures in
    let is : List GlobItem = items (drop s.from s.pattern.now) in
    let own : items p ≡ is = own_items p s.pattern.now 0 s.from read.pattern read.from in (
      λ no. absurd (false≢true no),
      λ h.
          let parts = Glob-parts f v is s.count read.segment.counted 0 (omega arith) (subst (λ l. Glob f l v) own h) in
          absurd (false≢true (c.if-not-stands_at.ensures.stands.1 parts.0)),
    )

pub loop-end-init : goal.loop-end-init
loop-end-init g c =
    let f : ℕ → ℕ = g.C.Comparator.image_of in
    let p : List ℕ = c.args.pattern.now in
    let v : List ℕ = c.args.value.now in
    let s = c.read-head.result in
    let read = c.read-head.ensures in
    let segment = read.segment in
    let is : List GlobItem = items (drop s.from s.pattern.now) in
    let own : items p ≡ is = own_items p s.pattern.now 0 s.from read.pattern read.from in
    let left : items (drop s.end p) ≡ drop s.count is = own_items p s.pattern.now s.end s.end read.pattern refl ∙ segment.rest in
    let stands : ItemsStandAt f is s.count v 0 = c.if-not-stands_at.ensures.stands.0 refl in
    let long : length s.pattern.now ≡ length p = ap length read.pattern in
    record {
      pattern = omega (arith, segment.end);
      value = omega (arith, stands.fits);
      same = subst (λ l. Glob f (items p) v ↔ Glob f l (drop s.count v)) (sym left)
          (subst (λ l. Glob f l v ↔ Glob f (drop s.count is) (drop s.count v)) (sym own) (head_serves f v is s.count segment.counted stands));
      star = λ inside. own_items p s.pattern.now s.end s.end read.pattern refl ∙ segment.star (omega arith)
          ∙ ap (λ l. Star ∷ l) (sym (own_items p s.pattern.now (s.end + 1) (s.end + 1) read.pattern refl));
      cost = cost_first p c.args.steps.now c.read-head.new.steps c.stands_at.new.steps s.end s.count (omega (arith, read.cost, read.from))
          (omega (arith, read.spelled, read.from)) c.stands_at.ensures.cost (omega (arith, segment.end)) read.asterisk (is_long_key p) (list_any is_question_mark p);
    }

pub returns-then-part-n-clause-matches : goal.returns-then-part-n-clause-matches
returns-then-part-n-clause-matches g c =
    let f : ℕ → ℕ = g.C.Comparator.image_of in
    let p : List ℕ = c.args.pattern.now in
    let v : List ℕ = c.args.value.now in
    let end : ℕ = c.loop-end.end in
    let i : ℕ = c.loop-end.i in
    let old = c.loop-end.invariant in
    let s = c.read-part.result in
    let read = c.read-part.ensures in
    let segment = read.segment in
    let is : List GlobItem = items (drop s.from s.pattern.now) in
    let own : items (drop (end + 1) p) ≡ is = own_items p s.pattern.now (end + 1) s.from read.pattern read.from in
    let here : Glob f (items p) v ↔ Glob f (Star ∷ is) (drop i v) =
    subst (λ l. Glob f (items p) v ↔ Glob f l (drop i v)) (old.star c.loop-end-test.true ∙ ap (λ l. Star ∷ l) own) old.same in
    let last : drop s.count is ≡ [] =
    sym (own_items p s.pattern.now s.end s.end read.pattern refl ∙ segment.rest) ∙ items-past p s.end (omega (arith, c.if-part-pattern.true)) in
    let value = old.value in
    let room : i + s.count ≤ length v = omega (arith, c.if-part-n.true, c.len-n.ensures.len) in
    let stands = last_serves f v is s.count segment.counted i value last room in
    let found : IsTrue c.stands_at-then-part-n.result ↔ ItemsStandAt f is s.count v (length v - s.count) =
    subst (λ n. IsTrue c.stands_at-then-part-n.result ↔ ItemsStandAt f is s.count v (n - s.count)) c.len-n.ensures.len c.stands_at-then-part-n.ensures.stands in (
      λ yes. here.1 (stands.1 (found.0 yes)),
      λ h. found.1 (stands.0 (here.0 h)),
    )

pub returns-else-part-n-clause-matches : goal.returns-else-part-n-clause-matches
returns-else-part-n-clause-matches g c =
    let f : ℕ → ℕ = g.C.Comparator.image_of in
    let p : List ℕ = c.args.pattern.now in
    let v : List ℕ = c.args.value.now in
    let end : ℕ = c.loop-end.end in
    let i : ℕ = c.loop-end.i in
    let old = c.loop-end.invariant in
    let s = c.read-part.result in
    let read = c.read-part.ensures in
    let segment = read.segment in
    let is : List GlobItem = items (drop s.from s.pattern.now) in
    let own : items (drop (end + 1) p) ≡ is = own_items p s.pattern.now (end + 1) s.from read.pattern read.from in
    let here : Glob f (items p) v ↔ Glob f (Star ∷ is) (drop i v) =
    subst (λ l. Glob f (items p) v ↔ Glob f l (drop i v)) (old.star c.loop-end-test.true ∙ ap (λ l. Star ∷ l) own) old.same in
    let short = c.if-part-n.false in
    let size = c.len-n.ensures.len in (
      λ yes. absurd (omega (arith, short, leb-true s.count (c.len-n.result - i) yes)),
      λ h. absurd (omega (arith, short, last_fits f v is s.count segment.counted i old.value (here.0 h))),
    )

pub returns-in-None-clause-matches : goal.returns-in-None-clause-matches
returns-in-None-clause-matches g c =
    let f : ℕ → ℕ = g.C.Comparator.image_of in
    let p : List ℕ = c.args.pattern.now in
    let v : List ℕ = c.args.value.now in
    let end : ℕ = c.loop-end.end in
    let i : ℕ = c.loop-end.i in
    let old = c.loop-end.invariant in
    let s = c.read-part.result in
    let read = c.read-part.ensures in
    let is : List GlobItem = items (drop s.from s.pattern.now) in
    let own : items (drop (end + 1) p) ≡ is = own_items p s.pattern.now (end + 1) s.from read.pattern read.from in
    let here : Glob f (items p) v ↔ Glob f (Star ∷ is) (drop i v) =
    subst (λ l. Glob f (items p) v ↔ Glob f l (drop i v)) (old.star c.loop-end-test.true ∙ ap (λ l. Star ∷ l) own) old.same in (
      λ no. absurd (false≢true no),
      λ h. absurd (none_serves f v is s.count read.segment.counted i old.value c.in-None.ensures.found (here.0 h)),
    )

pub loop-end-preserved : goal.loop-end-preserved
loop-end-preserved g c =
    let f : ℕ → ℕ = g.C.Comparator.image_of in
    let p : List ℕ = c.args.pattern.now in
    let v : List ℕ = c.args.value.now in
    let end : ℕ = c.loop-end.end in
    let i : ℕ = c.loop-end.i in
    let k : ℕ = c.in-Some.k in
    let old = c.loop-end.invariant in
    let s = c.read-part.result in
    let read = c.read-part.ensures in
    let segment = read.segment in
    let is : List GlobItem = items (drop s.from s.pattern.now) in
    let own : items (drop (end + 1) p) ≡ is = own_items p s.pattern.now (end + 1) s.from read.pattern read.from in
    let here : Glob f (items p) v ↔ Glob f (Star ∷ is) (drop i v) =
    subst (λ l. Glob f (items p) v ↔ Glob f l (drop i v)) (old.star c.loop-end-test.true ∙ ap (λ l. Star ∷ l) own) old.same in
    let long : length s.pattern.now ≡ length p = ap length read.pattern in
    let within : s.end ≤ length p = omega (arith, segment.end) in
    let other = c.if-part-pattern.false in
    let inside : s.end < length s.pattern.now = omega arith in
    let left : items (drop s.end p) ≡ drop s.count is = own_items p s.pattern.now s.end s.end read.pattern refl ∙ segment.rest in
    let found = c.in-Some.ensures.found in
    let fits = found.1.fits in
    let few : s.count ≤ length p = omega (arith, read.spelled, within) in
    let steps : ℕ = part_steps s.literal s.count (k - i) in
    let searched : c.find.new.steps ≤ c.read-part.new.steps + steps =
    subst (λ r. c.find.new.steps ≤ c.read-part.new.steps + part_steps s.literal s.count (search_end (length v) r - i)) c.in-Some.is c.find.ensures.cost in
    let more : drop s.count is ≡ Star ∷ items (drop (s.end + 1) s.pattern.now) = sym segment.rest ∙ segment.star inside in
    record {
      pattern = within;
      value = fits;
      same = subst (λ l. Glob f (items p) v ↔ Glob f l (drop (k + s.count) v)) (sym left)
          (chain here (first_serves f v is s.count segment.counted i old.value (items (drop (s.end + 1) s.pattern.now)) more k found.0.low found.1 found.0.before));
      star = λ _. left ∙ more ∙ ap (λ l. Star ∷ l) (sym (own_items p s.pattern.now (s.end + 1) (s.end + 1) read.pattern refl));
      cost = cost_more p c.args.steps.now c.loop-end.steps end i c.read-part.new.steps c.find.new.steps s.end s.count (k - i) steps
          (omega (arith, read.cost, read.from)) (omega (arith, read.spelled, read.from)) searched (omega arith) (read.asterisk (omega arith)) few
          (is_long_key p) (list_any is_question_mark p) old.cost (part_within p s.count (k - i) few s.literal read.question)
          (no_part p s.count (k - i) few s.literal) (k + s.count) (omega (arith, found.0.low));
    }

pub returns-clause-matches : goal.returns-clause-matches
returns-clause-matches g c =
    let f : ℕ → ℕ = g.C.Comparator.image_of in
    let p : List ℕ = c.args.pattern.now in
    let v : List ℕ = c.args.value.now in
    let i : ℕ = c.loop-end.i in
    let old = c.loop-end.invariant in
    let here : Glob f (items p) v ↔ Glob f [] (drop i v) =
    subst (λ l. Glob f (items p) v ↔ Glob f l (drop i v)) (items-past p c.loop-end.end c.loop-end-test.false) old.same in
    let ended = Glob-nil f v i old.value in (
      λ yes. here.1 (ended.1 (eqb-true i c.len-n.result yes ∙ c.len-n.ensures.len)),
      λ h. eq-eqb i c.len-n.result (ended.0 (here.0 h) ∙ sym c.len-n.ensures.len),
    )

pub returns-then-not-stands_at-clause-cost : goal.returns-then-not-stands_at-clause-cost
returns-then-not-stands_at-clause-cost g c =
    let p : List ℕ = c.args.pattern.now in
    let s = c.read-head.result in
    let read = c.read-head.ensures in
    cost_head p c.args.steps.now c.read-head.new.steps c.stands_at.new.steps s.end s.count (omega (arith, read.cost, read.from))
    (omega (arith, read.spelled, read.from)) c.stands_at.ensures.cost (omega (arith, read.segment.end, ap length read.pattern)) read.asterisk (is_long_key p) (list_any is_question_mark p)
    (length c.args.value.now)

pub returns-then-part-n-clause-cost : goal.returns-then-part-n-clause-cost
returns-then-part-n-clause-cost g c =
    let p : List ℕ = c.args.pattern.now in
    let old = c.loop-end.invariant in
    let s = c.read-part.result in
    let read = c.read-part.ensures in
    cost_last p c.args.steps.now c.loop-end.steps c.loop-end.end c.loop-end.i (is_long_key p) (list_any is_question_mark p) old.cost c.read-part.new.steps
    c.stands_at-then-part-n.new.steps (length c.args.value.now) s.count (omega (arith, read.cost, read.from, c.if-part-pattern.true))
    (omega (arith, read.spelled, read.from, c.if-part-pattern.true)) c.stands_at-then-part-n.ensures.cost old.value

pub returns-else-part-n-clause-cost : goal.returns-else-part-n-clause-cost
returns-else-part-n-clause-cost g c =
    let p : List ℕ = c.args.pattern.now in
    let old = c.loop-end.invariant in
    let s = c.read-part.result in
    let read = c.read-part.ensures in
    cost_last p c.args.steps.now c.loop-end.steps c.loop-end.end c.loop-end.i (is_long_key p) (list_any is_question_mark p) old.cost c.read-part.new.steps
    c.read-part.new.steps (length c.args.value.now) s.count (omega (arith, read.cost, read.from, c.if-part-pattern.true))
    (omega (arith, read.spelled, read.from, c.if-part-pattern.true)) (omega arith) old.value

pub returns-in-None-clause-cost : goal.returns-in-None-clause-cost
returns-in-None-clause-cost g c =
    let p : List ℕ = c.args.pattern.now in
    let n : ℕ = length c.args.value.now in
    let i : ℕ = c.loop-end.i in
    let old = c.loop-end.invariant in
    let s = c.read-part.result in
    let read = c.read-part.ensures in
    let within : s.end ≤ length p = omega (arith, read.segment.end, ap length read.pattern) in
    let inside : s.end < length p = omega (arith, within, c.if-part-pattern.false) in
    let few : s.count ≤ length p = omega (arith, read.spelled, within) in
    let steps : ℕ = part_steps s.literal s.count (n - i) in
    let searched : c.find.new.steps ≤ c.read-part.new.steps + steps =
    subst (λ r. c.find.new.steps ≤ c.read-part.new.steps + part_steps s.literal s.count (search_end n r - i)) c.in-None.is c.find.ensures.cost in
    cost_none p c.args.steps.now c.loop-end.steps c.loop-end.end i c.read-part.new.steps c.find.new.steps s.end s.count (n - i) steps
    (omega (arith, read.cost, read.from)) (omega (arith, read.spelled, read.from)) searched inside (read.asterisk inside) few
    (is_long_key p) (list_any is_question_mark p) old.cost (part_within p s.count (n - i) few s.literal read.question) n (omega (arith, old.value))

pub returns-clause-cost : goal.returns-clause-cost
returns-clause-cost g c =
    let p : List ℕ = c.args.pattern.now in
    let old = c.loop-end.invariant in
    cost_end p c.args.steps.now c.loop-end.steps c.loop-end.end c.loop-end.i (is_long_key p) (list_any is_question_mark p) old.cost (length c.args.value.now) old.pattern old.value
