use Rattle.std.proofs.Common.{◌≡◌, ℕ, ◌+◌, ◌-◌, ◌≤◌, List, [], ◌∷◌, length, drop, refl, sym, subst, ◌∙◌, arith, MatchOption, Option, Some, None}
use Rattle.std.proofs.lemmas.Bool.{false≢true}
use Rattle.sieve_match.specs.Glob.{items, Glob}
use Rattle.sieve_match.specs.Segments.{segment_len, ItemsStandAt}
use Rattle.sieve_match.specs.Wildcards.{EndsStar}
use Rattle.sieve_match.specs.declared.pattern.GlobItem.{GlobItem}
use Rattle.sieve_match.specs.declared.pattern.GlobItem.TheVariants.{Star}
use Rattle.memchr.specs.Find.{IsFirst}
use Rattle.sieve_match.proofs.Patterns.{items-past}
use Rattle.sieve_match.proofs.Steps.{none_serves, last_serves, last_fits}
use Rattle.sieve_match.proofs.CaptureSteps.{ends_first, ends_last}
use Rattle.sieve_match.proofs.captures.star_end.Goals as goal

-- what a search for a segment found before another star
searched : (f : ℕ → ℕ) (v : List ℕ) (is rest : List GlobItem) (m i : ℕ) → m ≡ segment_len is → i ≤ length v → drop m is ≡ Star ∷ rest → (r : Option ℕ) → IsFirst (ItemsStandAt f is m v) i (length v + 1) r
    → MatchOption r (Glob f (Star ∷ is) (drop i v) → ⊥) (λ place. EndsStar f is m v i place)
searched f v is rest m i counted start more None nowhere = none_serves f v is m counted i start nowhere
searched f v is rest m i counted start more (Some k) found = ends_first f v is rest m i counted start more k found.0.low found.1 found.0.before

pub returns-then-segment : goal.returns-then-segment
returns-then-segment g c =
    let segment = c.args.segment.now in
    let read = c.requires.segment in
    searched g.C.Comparator.image_of c.args.value.now (items (drop segment.from segment.pattern.now)) (items (drop (segment.end + 1) segment.pattern.now)) segment.count c.args.from
    read.counted c.requires.within (sym read.rest ∙ read.star c.if-segment.true) c.find.result c.find.ensures.found

pub returns-then-n-from : goal.returns-then-n-from
returns-then-n-from g c = λ h.
    let f : ℕ → ℕ = g.C.Comparator.image_of in
    let segment = c.args.segment.now in
    let read = c.requires.segment in
    let is : List GlobItem = items (drop segment.from segment.pattern.now) in
    let last : drop segment.count is ≡ [] = sym read.rest ∙ items-past segment.pattern.now segment.end c.if-segment.false in
    absurd (omega (arith, c.if-n-from.true, c.len-n.ensures.len, last_fits f c.args.value.now is segment.count read.counted c.args.from c.requires.within h))

pub returns-then-not-stands_at : goal.returns-then-not-stands_at
returns-then-not-stands_at g c = λ h.
    let f : ℕ → ℕ = g.C.Comparator.image_of in
    let v : List ℕ = c.args.value.now in
    let segment = c.args.segment.now in
    let read = c.requires.segment in
    let is : List GlobItem = items (drop segment.from segment.pattern.now) in
    let last : drop segment.count is ≡ [] = sym read.rest ∙ items-past segment.pattern.now segment.end c.if-segment.false in
    let room : c.args.from + segment.count ≤ length v = omega (arith, c.if-n-from.false, c.len-n.ensures.len, c.requires.within, last_fits f v is segment.count read.counted c.args.from c.requires.within h) in
    let stands : ItemsStandAt f is segment.count v (length v - segment.count) = (last_serves f v is segment.count read.counted c.args.from c.requires.within last room).0 h in
    absurd (false≢true (c.if-not-stands_at.ensures.stands.1 (subst (λ n. ItemsStandAt f is segment.count v (n - segment.count)) (sym c.len-n.ensures.len) stands)))

pub returns : goal.returns
returns g c =
    let f : ℕ → ℕ = g.C.Comparator.image_of in
    let v : List ℕ = c.args.value.now in
    let segment = c.args.segment.now in
    let read = c.requires.segment in
    let is : List GlobItem = items (drop segment.from segment.pattern.now) in
    let last : drop segment.count is ≡ [] = sym read.rest ∙ items-past segment.pattern.now segment.end c.if-segment.false in
    let stands : ItemsStandAt f is segment.count v (length v - segment.count) =
    subst (λ n. ItemsStandAt f is segment.count v (n - segment.count)) c.len-n.ensures.len (c.if-not-stands_at.ensures.stands.0 refl) in
    subst (λ n. EndsStar f is segment.count v c.args.from (n - segment.count)) (sym c.len-n.ensures.len)
    (ends_last f v is segment.count c.args.from read.counted c.requires.within last (omega (arith, c.if-n-from.false, c.len-n.ensures.len, c.requires.within, stands.fits)) stands)
