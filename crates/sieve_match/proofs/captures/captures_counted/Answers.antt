use Rattle.std.proofs.Common.{refl, ◌≡◌, ℕ, ◌+◌, ◌↔◌, List, [], ◌∷◌, ◌++◌, length, take, drop, sym, ap, subst, ◌∙◌, arith}
use Rattle.std.proofs.lemmas.Bool.{false≢true}
use Rattle.sieve_match.specs.Glob.{items, Glob}
use Rattle.sieve_match.specs.Segments.{ItemsStandAt}
use Rattle.sieve_match.specs.Wildcards.{octets_taken, EndsStar}
use Rattle.sieve_match.specs.declared.pattern.GlobItem.{GlobItem}
use Rattle.sieve_match.specs.declared.pattern.GlobItem.TheVariants.{Star}
use Rattle.sieve_match.specs.declared.captures.TheConstants.{MAX_CAPTURES}
use Rattle.sieve_match.proofs.Patterns.{items-past}
use Rattle.sieve_match.proofs.Steps.{Glob-nil, Glob-parts, head_serves}
use Rattle.sieve_match.proofs.CaptureSteps.{Caught, caught_first, caught_more, caught_last, few}
use Rattle.sieve_match.proofs.captures.captures_counted.Goals as goal

-- the items that a segment was read from, in its own words
own_items : (p q : List ℕ) (n m : ℕ) → q ≡ p → m ≡ n → items (drop n p) ≡ items (drop m q)
own_items p q n m same at = ap (λ l. items (drop n l)) (sym same) ∙ ap (λ k. items (drop k q)) (sym at)

-- two equivalences in a row
chain : {P Q R : Type 0} → P ↔ Q → Q ↔ R → P ↔ R
chain a b = (λ p. b.0 (a.0 p), λ r. a.1 (b.1 r))

pub returns-then-not-stands_at : goal.returns-then-not-stands_at
returns-then-not-stands_at g c = λ h.
    let f : ℕ → ℕ = g.C.Comparator.image_of in
    let p : List ℕ = c.args.pattern.now in
    let v : List ℕ = c.args.value.now in
    let s = c.read-head.result in
    let read = c.read-head.ensures in
    let is : List GlobItem = items (drop s.from s.pattern.now) in
    let own : items p ≡ is = own_items p s.pattern.now 0 s.from read.pattern read.from in
    let parts = Glob-parts f v is s.count read.segment.counted 0 (omega arith) (subst (λ l. Glob f l v) own h) in
    absurd (false≢true (c.if-not-stands_at.ensures.stands.1 (subst (λ w. ItemsStandAt f is s.count w 0) (sym c.new-watched.ensures) parts.0)))

pub loop-end-init : goal.loop-end-init
loop-end-init g c =
    let f : ℕ → ℕ = g.C.Comparator.image_of in
    let p : List ℕ = c.args.pattern.now in
    let v : List ℕ = c.args.value.now in
    let s = c.read-head.result in
    let read = c.read-head.ensures in
    let segment = read.segment in
    let is : List GlobItem = items (drop s.from s.pattern.now) in
    let own : items p ≡ is = own_items p s.pattern.now 0 s.from read.pattern read.from in
    let left : items (drop s.end p) ≡ drop s.count is = own_items p s.pattern.now s.end s.end read.pattern refl ∙ segment.rest in
    let stands : ItemsStandAt f is s.count v 0 = subst (λ w. ItemsStandAt f is s.count w 0) c.new-watched.ensures (c.if-not-stands_at.ensures.stands.0 refl) in
    let long : length s.pattern.now ≡ length p = ap length read.pattern in
    let kept_is : c.push_octets.new.kept ≡ take (MAX_CAPTURES + 1) ((v ∷ []) ++ octets_taken is v 0) =
    subst (λ k. c.push_octets.new.kept ≡ take (MAX_CAPTURES + 1) (k ++ octets_taken is v 0)) c.new-kept.ensures c.push_octets.ensures in
    record {
      pattern = omega (arith, segment.end);
      value = omega (arith, stands.fits);
      few = few (MAX_CAPTURES + 1) ((v ∷ []) ++ octets_taken is v 0) c.push_octets.new.kept kept_is;
      same = subst (λ l. Glob f (items p) v ↔ Glob f l (drop s.count v)) (sym left)
          (subst (λ l. Glob f l v ↔ Glob f (drop s.count is) (drop s.count v)) (sym own) (head_serves f v is s.count segment.counted stands));
      star = λ inside. own_items p s.pattern.now s.end s.end read.pattern refl ∙ segment.star (omega arith)
          ∙ ap (λ l. Star ∷ l) (sym (own_items p s.pattern.now (s.end + 1) (s.end + 1) read.pattern refl));
      caught = subst (λ l. Caught f (MAX_CAPTURES + 1) (items p) v l (drop s.count v) c.push_octets.new.kept) (sym left)
          (subst (λ l. Caught f (MAX_CAPTURES + 1) l v (drop s.count is) (drop s.count v) c.push_octets.new.kept) (sym own)
          (caught_first f (MAX_CAPTURES + 1) v is s.count segment.counted c.push_octets.new.kept stands kept_is));
    }

pub loop-end-preserved : goal.loop-end-preserved
loop-end-preserved g c =
    let f : ℕ → ℕ = g.C.Comparator.image_of in
    let p : List ℕ = c.args.pattern.now in
    let v : List ℕ = c.args.value.now in
    let end : ℕ = c.loop-end.end in
    let i : ℕ = c.loop-end.i in
    let old = c.loop-end.invariant in
    let s = c.read-part.result in
    let read = c.read-part.ensures in
    let segment = read.segment in
    let is : List GlobItem = items (drop s.from s.pattern.now) in
    let own : items (drop (end + 1) p) ≡ is = own_items p s.pattern.now (end + 1) s.from read.pattern read.from in
    let begins : items (drop end p) ≡ Star ∷ is = old.star c.loop-end-test.true ∙ ap (λ l. Star ∷ l) own in
    let left : items (drop s.end p) ≡ drop s.count is = own_items p s.pattern.now s.end s.end read.pattern refl ∙ segment.rest in
    let long : length s.pattern.now ≡ length p = ap length read.pattern in
    let k : ℕ = c.in-Some.place in
    let ends : EndsStar f is s.count v i k = subst (λ w. EndsStar f is s.count w i k) c.new-watched.ensures c.in-Some.ensures in
    let here : Glob f (items p) v ↔ Glob f (Star ∷ is) (drop i v) = subst (λ l. Glob f (items p) v ↔ Glob f l (drop i v)) begins old.same in
    let kept : Caught f (MAX_CAPTURES + 1) (items p) v (Star ∷ is) (drop i v) c.loop-end.kept =
    subst (λ l. Caught f (MAX_CAPTURES + 1) (items p) v l (drop i v) c.loop-end.kept) begins old.caught in
    record {
      pattern = omega (arith, segment.end);
      value = ends.stands.fits;
      few = few (MAX_CAPTURES + 1) (c.push.new.self ++ octets_taken is v k) c.push_octets-in-loop-end.new.kept c.push_octets-in-loop-end.ensures;
      same = subst (λ l. Glob f (items p) v ↔ Glob f l (drop (k + s.count) v)) (sym left) (chain here ends.same);
      star = λ inside. own_items p s.pattern.now s.end s.end read.pattern refl ∙ segment.star (omega arith)
          ∙ ap (λ l. Star ∷ l) (sym (own_items p s.pattern.now (s.end + 1) (s.end + 1) read.pattern refl));
      caught = subst (λ l. Caught f (MAX_CAPTURES + 1) (items p) v l (drop (k + s.count) v) c.push_octets-in-loop-end.new.kept) (sym left)
          (caught_more f (MAX_CAPTURES + 1) v is s.count segment.counted (items p) i k c.loop-end.kept c.push.new.self c.push_octets-in-loop-end.new.kept ends kept
          c.push.ensures c.push_octets-in-loop-end.ensures);
    }

pub returns-then-i-value : goal.returns-then-i-value
returns-then-i-value g c = λ h.
    let f : ℕ → ℕ = g.C.Comparator.image_of in
    let p : List ℕ = c.args.pattern.now in
    let v : List ℕ = c.args.value.now in
    let old = c.loop-end.invariant in
    let none : items (drop c.loop-end.end p) ≡ [] = items-past p c.loop-end.end c.loop-end-test.false in
    c.if-i-value.true ((Glob-nil f v c.loop-end.i old.value).0 (subst (λ l. Glob f l (drop c.loop-end.i v)) none (old.same.0 h)))

pub returns : goal.returns
returns g c =
    let p : List ℕ = c.args.pattern.now in
    let v : List ℕ = c.args.value.now in
    let old = c.loop-end.invariant in
    caught_last g.C.Comparator.image_of (MAX_CAPTURES + 1) v (items p) (items (drop c.loop-end.end p)) c.loop-end.i c.loop-end.kept old.caught
    (items-past p c.loop-end.end c.loop-end-test.false) c.if-i-value.false
