use Rattle.std.proofs.Common.{◌≡◌, ℕ, ◌+◌, ◌<◌, ◌≤◌, ◌⊎◌, max, length, sym, ap, subst, ◌∙◌, arith, inl, inr, ⊎_elim}
use Rattle.std.proofs.lemmas.Bool.{cases_lt}
use Rattle.memchr.proofs.lemmas.FindLemmas.{Nowhere-then}
use Rattle.memchr.proofs.lemmas.SearchLemmas.{Nowhere-right, Nowhere-left, Nowhere-end}
use Rattle.sieve_match.specs.Search.{image_at, image_in}
use Rattle.sieve_match.specs.declared.spelling.KeyCursor.{KeyCursor}
use Rattle.sieve_match.proofs.Counts.{steps_right, steps_left, steps_found, steps_ended, steps_past}
use Rattle.sieve_match.proofs.twoway.find_cut.Goals as goal
use Rattle.sieve_match.proofs.twoway.find_cut.Goals.{then-known-cut, else-known-cut}

-- what is known of the key at one place is known at an equal one
moved : (x h : ℕ → ℕ) (known pos next : ℕ) → (0 < known → next ≡ pos) → ((k : ℕ) → k < known → x k ≡ h (pos + k))
    → (k : ℕ) → k < known → x k ≡ h (next + k)
moved x h known pos next kept same k l = subst (λ q. x k ≡ h (q + k)) (sym (kept (omega arith))) (same k l)

-- what is known and what was compared from there on make up the key from the cut to where the comparison stopped
compared : (x h : ℕ → ℕ) (critical known start stop pos : ℕ) → ((start ≡ known) × (critical < known)) ⊎ (start ≡ critical)
    → ((k : ℕ) → k < known → x k ≡ h (pos + k)) → ((k : ℕ) → start ≤ k → k < stop → x k ≡ h (pos + k))
    → (k : ℕ) → critical ≤ k → k < stop → x k ≡ h (pos + k)
compared x h critical known start stop pos starts front after k low high = ⊎_elim
    (λ inside. front k (omega (arith, starts)))
    (λ outside. after k outside high)
    (cases_lt k start)

pub loop-pos-preserved-then-right-m : goal.loop-pos-preserved-then-right-m
loop-pos-preserved-then-right-m g c =
    let x : ℕ → ℕ = image_at g.C.Comparator.image_of (g.K.Key.octet_at c.args.key.now) in
    let m : ℕ = g.K.Key.size c.args.key.now in
    let h : ℕ → ℕ = image_in g.C.Comparator.image_of c.args.value.now in
    let n : ℕ = length c.args.value.now in
    let old = c.loop-pos.invariant in
    let next = c.next_candidate-pos.ensures in
    let earlier = old.low in
    let later = next.low in
    let pos : ℕ = c.next_candidate-pos.result in
    let known : ℕ = c.loop-pos.known.index in
    let critical : ℕ = c.args.cut.critical.index in
    let start : ℕ = c.if-known-cut.start.index in
    let starts : ((start ≡ known) × (critical < known)) ⊎ (start ≡ critical) = elim c.if-known-cut.branch [
      | then-known-cut w ↦ inl (ap (λ (s : KeyCursor). s.index) w.start-is, omega arith)
      | else-known-cut w ↦ inr (ap (λ (s : KeyCursor). s.index) w.start-is)
    ] in
    let ends = c.matched_to-right.ensures in
    let low = ends.low in
    let i : ℕ = c.matched_to-right.result.index in
    let size = c.len-m.ensures in
    let below : i < m = omega (arith, c.if-right-m.true) in
    let from_cut : critical ≤ i = omega (arith, starts) in
    let front = moved x h known c.loop-pos.pos pos next.kept old.same in
    let same = compared x h critical known start i pos starts front ends.same in
    let here = Nowhere-right x m h n critical c.requires.cut.critical pos i from_cut below same (ends.differs c.if-right-m.true) in
    let none = c.first-known-then-right-m.ensures.index in
    let larger : start ≡ max critical known = elim c.if-known-cut.branch [
      | then-known-cut w ↦ omega (arith, ap (λ (s : KeyCursor). s.index) w.start-is, w.if-known-cut.true)
      | else-known-cut w ↦ omega (arith, ap (λ (s : KeyCursor). s.index) w.start-is, w.if-known-cut.false)
    ] in
    let cost = steps_right c.args.steps.now c.args.from critical m c.loop-pos.steps c.loop-pos.pos known old.cost
    c.next_candidate-pos.new.steps c.matched_to-right.new.steps pos i later (next.cost (omega (arith, c.if-n-pos.false, c.len-n.ensures.len)))
    (omega (arith, ends.cost c.if-right-m.true, larger)) from_cut in
    record {
      low = omega arith;
      high = omega (arith, c.if-n-pos.false, c.len-n.ensures.len);
      before = Nowhere-then (Nowhere-then old.before next.passed) here;
      spot = c.first-known-then-right-m.ensures.spot;
      short = omega arith;
      same = λ k l. absurd (omega arith);
      cost = omega (arith, none, cost);
    }

pub loop-pos-preserved : goal.loop-pos-preserved
loop-pos-preserved g c =
    let x : ℕ → ℕ = image_at g.C.Comparator.image_of (g.K.Key.octet_at c.args.key.now) in
    let m : ℕ = g.K.Key.size c.args.key.now in
    let h : ℕ → ℕ = image_in g.C.Comparator.image_of c.args.value.now in
    let n : ℕ = length c.args.value.now in
    let old = c.loop-pos.invariant in
    let next = c.next_candidate-pos.ensures in
    let earlier = old.low in
    let later = next.low in
    let pos : ℕ = c.next_candidate-pos.result in
    let known : ℕ = c.loop-pos.known.index in
    let cut = c.requires.cut in
    let critical : ℕ = c.args.cut.critical.index in
    let start : ℕ = c.if-known-cut.start.index in
    let starts : ((start ≡ known) × (critical < known)) ⊎ (start ≡ critical) = elim c.if-known-cut.branch [
      | then-known-cut w ↦ inl (ap (λ (s : KeyCursor). s.index) w.start-is, omega arith)
      | else-known-cut w ↦ inr (ap (λ (s : KeyCursor). s.index) w.start-is)
    ] in
    let size = c.len-m.ensures in
    let stop : ℕ = c.matched_to-right.result.index in
    let full : m ≤ stop = omega (arith, c.if-right-m.false) in
    let front = moved x h known c.loop-pos.pos pos next.kept old.same in
    let right : (k : ℕ) → critical ≤ k → k < m → x k ≡ h (pos + k) = λ k a b.
    compared x h critical known start stop pos starts front c.matched_to-right.ensures.same k a (omega arith) in
    let below = cut.below in
    let room = cut.room in
    let moves = cut.moves in
    let left = c.matched_to-left.ensures.differs c.if-left-cut.false in
    let here = Nowhere-left x m h n critical c.args.cut.shift cut.critical cut.short pos right
    (λ occurs. left (sym (occurs.reads c.matched_to-left.result.index (omega (arith, c.if-left-cut.false))))) in
    let larger : start ≡ max critical known = elim c.if-known-cut.branch [
      | then-known-cut w ↦ omega (arith, ap (λ (s : KeyCursor). s.index) w.start-is, w.if-known-cut.true)
      | else-known-cut w ↦ omega (arith, ap (λ (s : KeyCursor). s.index) w.start-is, w.if-known-cut.false)
    ] in
    record {
      low = omega arith;
      high = omega (arith, c.if-n-pos.false, c.len-n.ensures.len);
      before = Nowhere-then (Nowhere-then old.before next.passed) here;
      spot = c.requires.keep;
      short = omega arith;
      same = λ k l. cut.repeats k l ∙ right (k + c.args.cut.shift) (cut.after k l) (omega arith) ∙ ap h (omega arith);
      cost = steps_left c.args.steps.now c.args.from critical m c.loop-pos.steps c.loop-pos.pos known old.cost
          c.next_candidate-pos.new.steps c.matched_to-right.new.steps c.matched_to-left.new.steps pos c.matched_to-left.result.index c.args.cut.shift
          c.args.cut.keep.index later (next.cost (omega (arith, c.if-n-pos.false, c.len-n.ensures.len)))
          (omega (arith, c.matched_to-right.ensures.all (omega (arith, full)), c.matched_to-right.ensures.high, larger, size, old.short, cut.below))
          (omega (arith, c.matched_to-left.ensures.cost c.if-left-cut.false))
          (omega (arith, c.if-left-cut.false)) c.matched_to-left.ensures.low below moves cut.left cut.reaches;
    }

pub returns-then-n-pos-clause-found : goal.returns-then-n-pos-clause-found
returns-then-n-pos-clause-found g c =
    let x : ℕ → ℕ = image_at g.C.Comparator.image_of (g.K.Key.octet_at c.args.key.now) in
    let m : ℕ = g.K.Key.size c.args.key.now in
    let h : ℕ → ℕ = image_in g.C.Comparator.image_of c.args.value.now in
    let n : ℕ = length c.args.value.now in
    let next = c.next_candidate-pos.ensures in
    Nowhere-then (Nowhere-then c.loop-pos.invariant.before next.passed)
    (Nowhere-end x m h n c.next_candidate-pos.result (omega (arith, c.if-n-pos.true, c.len-n.ensures.len, next.high, c.len-m.ensures)))

pub returns-then-left-cut-clause-found : goal.returns-then-left-cut-clause-found
returns-then-left-cut-clause-found g c =
    let x : ℕ → ℕ = image_at g.C.Comparator.image_of (g.K.Key.octet_at c.args.key.now) in
    let m : ℕ = g.K.Key.size c.args.key.now in
    let h : ℕ → ℕ = image_in g.C.Comparator.image_of c.args.value.now in
    let old = c.loop-pos.invariant in
    let next = c.next_candidate-pos.ensures in
    let earlier = old.low in
    let later = next.low in
    let pos : ℕ = c.next_candidate-pos.result in
    let known : ℕ = c.loop-pos.known.index in
    let critical : ℕ = c.args.cut.critical.index in
    let start : ℕ = c.if-known-cut.start.index in
    let starts : ((start ≡ known) × (critical < known)) ⊎ (start ≡ critical) = elim c.if-known-cut.branch [
      | then-known-cut w ↦ inl (ap (λ (s : KeyCursor). s.index) w.start-is, omega arith)
      | else-known-cut w ↦ inr (ap (λ (s : KeyCursor). s.index) w.start-is)
    ] in
    let size = c.len-m.ensures in
    let below = c.requires.cut.below in
    let stop : ℕ = c.matched_to-right.result.index in
    let full : m ≤ stop = omega (arith, c.if-right-m.false) in
    let fits : pos + m ≤ length c.args.value.now = omega (arith, c.if-n-pos.false, c.len-n.ensures.len) in
    let front = moved x h known c.loop-pos.pos pos next.kept old.same in
    let right = compared x h critical known start stop pos starts front c.matched_to-right.ensures.same in
    let left : (k : ℕ) → k < critical → x k ≡ h (pos + k) = λ k l. ⊎_elim
    (λ inside. front k inside)
    (λ outside. c.matched_to-left.ensures.same k outside (omega (arith, c.if-left-cut.true)))
    (cases_lt k known) in (
      record { low = omega arith; high = omega arith; before = Nowhere-then old.before next.passed },
      record {
        fits = fits;
        reads = λ j l. sym (⊎_elim
            (λ before. left j before)
            (λ after. right j after (omega arith))
            (cases_lt j critical));
      },
    )

pub returns-clause-found : goal.returns-clause-found
returns-clause-found g c =
    let x : ℕ → ℕ = image_at g.C.Comparator.image_of (g.K.Key.octet_at c.args.key.now) in
    let m : ℕ = g.K.Key.size c.args.key.now in
    let h : ℕ → ℕ = image_in g.C.Comparator.image_of c.args.value.now in
    let n : ℕ = length c.args.value.now in
    let old = c.loop-pos.invariant in
    let high = old.high in
    Nowhere-then old.before (Nowhere-end x m h n c.loop-pos.pos (omega (arith, c.loop-pos-test.false, c.len-m.ensures, c.len-n.ensures.len)))

pub returns-then-n-pos-clause-cost : goal.returns-then-n-pos-clause-cost
returns-then-n-pos-clause-cost g c =
    let m : ℕ = g.K.Key.size c.args.key.now in
    let old = c.loop-pos.invariant in
    let next = c.next_candidate-pos.ensures in
    let critical : ℕ = c.args.cut.critical.index in
    let known : ℕ = c.loop-pos.known.index in
    let size = c.len-m.ensures in
    let none : known ≡ 0 = ⊎_elim
    (λ zero. omega (arith, zero))
    (λ some. absurd (omega (arith, next.kept some, c.if-n-pos.true, c.len-n.ensures.len, c.loop-pos-test.true, size)))
    (cases_lt known 1) in
    steps_past c.args.steps.now c.args.from critical m c.loop-pos.steps c.loop-pos.pos known old.cost (length c.args.value.now)
    c.next_candidate-pos.new.steps old.low old.high none next.all

pub returns-then-left-cut-clause-cost : goal.returns-then-left-cut-clause-cost
returns-then-left-cut-clause-cost g c =
    let m : ℕ = g.K.Key.size c.args.key.now in
    let old = c.loop-pos.invariant in
    let next = c.next_candidate-pos.ensures in
    let critical : ℕ = c.args.cut.critical.index in
    let known : ℕ = c.loop-pos.known.index in
    let size = c.len-m.ensures in
    let start : ℕ = c.if-known-cut.start.index in
    let larger : start ≡ max critical known = elim c.if-known-cut.branch [
      | then-known-cut w ↦ omega (arith, ap (λ (s : KeyCursor). s.index) w.start-is, w.if-known-cut.true)
      | else-known-cut w ↦ omega (arith, ap (λ (s : KeyCursor). s.index) w.start-is, w.if-known-cut.false)
    ] in
    let right_all = c.matched_to-right.ensures.all c.if-right-m.false in
    steps_found c.args.steps.now c.args.from critical m c.loop-pos.steps c.loop-pos.pos known old.cost
    c.next_candidate-pos.new.steps c.matched_to-right.new.steps c.matched_to-left.new.steps c.next_candidate-pos.result old.low next.low
    (next.cost (omega (arith, c.if-n-pos.false, c.len-n.ensures.len))) (omega (arith, right_all, c.matched_to-right.ensures.high, larger, size, old.short, c.requires.cut.below))
    (omega (arith, c.matched_to-left.ensures.all c.if-left-cut.true, c.matched_to-left.ensures.high)) c.requires.cut.below old.short

pub returns-clause-cost : goal.returns-clause-cost
returns-clause-cost g c =
    let old = c.loop-pos.invariant in
    steps_ended c.args.steps.now c.args.from c.args.cut.critical.index (g.K.Key.size c.args.key.now) c.loop-pos.steps c.loop-pos.pos
    c.loop-pos.known.index old.cost (length c.args.value.now) old.low old.high c.requires.cut.below old.short
