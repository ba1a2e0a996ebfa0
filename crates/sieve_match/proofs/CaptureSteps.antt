-- How captures go on from segment to segment.
use Rattle.std.proofs.Common.{refl, ◌≡◌, ℕ, zero, suc, ◌+◌, ◌-◌, ◌<◌, ◌≤◌, List, [], ◌∷◌, ◌++◌, length, take, drop, get_or, sym, ap, subst, ◌∙◌, arith, append_assoc}
use Rattle.std.proofs.lemmas.List.{drop_more, drop_all, drop-drop, length-take, take-append-drop, append-nil}
use Rattle.sieve_match.specs.Glob.{Glob}
use Rattle.sieve_match.specs.Captures.{AreCaptures}
use Rattle.sieve_match.specs.Segments.{segment_len, TakesOctet, ItemsStandAt}
use Rattle.sieve_match.specs.Wildcards.{octets_taken, EndsStar}
use Rattle.sieve_match.specs.declared.pattern.GlobItem.{GlobItem}
use Rattle.sieve_match.specs.declared.pattern.GlobItem.TheVariants.{Star, One, Exact}
use Rattle.memchr.specs.Find.{Nowhere}
use Rattle.sieve_match.proofs.Steps.{StandAt-head, StandAt-tail, Glob-nil, Glob-parts, first_serves, last_serves}
use Rattle.sieve_match.proofs.CaptureLemmas.{captures_nil, captures_one_more, captures_exact_more, captures_star_more}

-- the first of a list's first and some more are the first of all
pub take_twice : (n : ℕ) (a b : List (List ℕ)) → take n (take n a ++ b) ≡ take n (a ++ b)
take_twice zero a b = refl
take_twice (suc n) [] b = refl
take_twice (suc n) (x ∷ a) b = ap (λ l. x ∷ l) (take_twice n a b)

-- after a segment there are no items, or a star
pub taken_after : (is : List GlobItem) (v : List ℕ) (place : ℕ) → octets_taken (drop (segment_len is) is) v place ≡ []
unfolding segment_len octets_taken
taken_after [] v place = refl
taken_after (Star ∷ rest) v place = refl
taken_after (One ∷ rest) v place = taken_after rest v place
taken_after (Exact octet ∷ rest) v place = taken_after rest v place

pub taken_one_at : (item : GlobItem) (rest : List GlobItem) (v : List ℕ) (place : ℕ) → item ≡ One
    → octets_taken (item ∷ rest) v place ≡ (get_or v place 0 ∷ []) ∷ octets_taken rest v (place + 1)
unfolding octets_taken
taken_one_at item rest v place is = ap (λ i. octets_taken (i ∷ rest) v place) is

pub taken_exact_at : (item : GlobItem) (rest : List GlobItem) (v : List ℕ) (place octet : ℕ) → item ≡ Exact octet → octets_taken (item ∷ rest) v place ≡ octets_taken rest v (place + 1)
unfolding octets_taken
taken_exact_at item rest v place octet is = ap (λ i. octets_taken (i ∷ rest) v place) is

-- a text more, and what comes after it
pub push_more : (n : ℕ) (kept then later : List (List ℕ)) (x : List ℕ) → then ≡ take n (kept ++ x ∷ []) → take n (then ++ later) ≡ take n (kept ++ x ∷ later)
push_more n kept then later x then_is =
    ap (λ l. take n (l ++ later)) then_is ∙ take_twice n (kept ++ x ∷ []) later ∙ ap (take n) (append_assoc kept (x ∷ []) later)

-- one octet of a value
pub one_octet : (v : List ℕ) (q n : ℕ) → q < length v → n ≡ 1 → take n (drop q v) ≡ get_or v q 0 ∷ []
one_octet v q n inside one = ap (λ k. take k (drop q v)) one ∙ ap (take 1) (drop_more v q 0 inside)

-- the first n are no more than n
pub few : (n : ℕ) (l kept : List (List ℕ)) → kept ≡ take n l → length kept ≤ n
few n l kept e = omega (arith, ap length e, length-take n l)

module _ (f : ℕ → ℕ) (v : List ℕ) where
  -- the captures of the items after a segment, with what its `?` take before them
  pub segment_captures : (is : List GlobItem) (k : ℕ) (cs : List (List ℕ)) → ItemsStandAt f is (segment_len is) v k
      → AreCaptures f (drop (segment_len is) is) (drop (k + segment_len is) v) cs → AreCaptures f is (drop k v) (octets_taken is v k ++ cs)
  unfolding segment_len octets_taken TakesOctet
  segment_captures [] k cs stands after = subst (λ q. AreCaptures f [] (drop q v) cs) (omega arith) after
  segment_captures (Star ∷ rest) k cs stands after = subst (λ q. AreCaptures f (Star ∷ rest) (drop q v) cs) (omega arith) after
  segment_captures (One ∷ rest) k cs stands after =
      let inside : k < length v = omega (arith, stands.fits) in
      let others = segment_captures rest (k + 1) cs (StandAt-tail f v One rest (segment_len rest) k stands)
      (subst (λ q. AreCaptures f (drop (segment_len rest) rest) (drop q v) cs) (omega arith) after) in
      subst (λ t. AreCaptures f (One ∷ rest) t ((get_or v k 0 ∷ []) ∷ (octets_taken rest v (k + 1) ++ cs))) (sym (drop_more v k 0 inside))
      (captures_one_more f rest (drop (k + 1) v) (octets_taken rest v (k + 1) ++ cs) others (get_or v k 0))
  segment_captures (Exact octet ∷ rest) k cs stands after =
      let inside : k < length v = omega (arith, stands.fits) in
      let others = segment_captures rest (k + 1) cs (StandAt-tail f v (Exact octet) rest (segment_len rest) k stands)
      (subst (λ q. AreCaptures f (drop (segment_len rest) rest) (drop q v) cs) (omega arith) after) in
      subst (λ t. AreCaptures f (Exact octet ∷ rest) t (octets_taken rest v (k + 1) ++ cs)) (sym (drop_more v k 0 inside))
      (captures_exact_more f rest (drop (k + 1) v) (octets_taken rest v (k + 1) ++ cs) others octet (get_or v k 0) (StandAt-head f v (Exact octet) rest (segment_len rest) k stands))

  -- the captures of items, with what a star before them takes
  pub star_captures : (is : List GlobItem) (m i k : ℕ) (cs : List (List ℕ)) → EndsStar f is m v i k → AreCaptures f is (drop k v) cs
      → AreCaptures f (Star ∷ is) (drop i v) (take (k - i) (drop i v) ∷ cs)
  star_captures is m i k cs ends after =
      let piece : List ℕ = take (k - i) (drop i v) in
      let place : i + (k - i) ≡ k = omega (arith, ends.low) in
      let whole : piece ++ drop k v ≡ drop i v =
      ap (λ l. piece ++ l) (ap (λ n. drop n v) (sym place) ∙ sym (drop-drop (k - i) i v)) ∙ take-append-drop (k - i) (drop i v) in
      subst (λ t. AreCaptures f (Star ∷ is) t (piece ∷ cs)) whole
      (captures_star_more f is (drop k v) cs after piece
      (λ j low g. ends.before (i + j) (omega arith) (omega (arith, length-take (k - i) (drop i v), low))
      (subst (Glob f is) (ap (drop j) whole ∙ drop-drop j i v) g)))

-- what was kept of the items up to some place: with the captures of those after it they are the captures of all
pub record Caught (f : ℕ → ℕ) (n : ℕ) (is : List GlobItem) (v : List ℕ) (rest : List GlobItem) (text : List ℕ) (kept : List (List ℕ)) : Type 0 where
  pub done : List (List ℕ)
  pub kept_is : kept ≡ take n (v ∷ done)
  pub goes : (cs : List (List ℕ)) → AreCaptures f rest text cs → AreCaptures f is v (done ++ cs)

module _ (f : ℕ → ℕ) (n : ℕ) (v : List ℕ) (is : List GlobItem) (m : ℕ) (counted : m ≡ segment_len is) where
  own_segment : (k : ℕ) (cs : List (List ℕ)) → ItemsStandAt f is m v k → AreCaptures f (drop m is) (drop (k + m) v) cs → AreCaptures f is (drop k v) (octets_taken is v k ++ cs)
  own_segment k cs stands after =
      segment_captures f v is k cs (subst (λ c. ItemsStandAt f is c v k) counted stands) (subst (λ c. AreCaptures f (drop c is) (drop (k + c) v) cs) counted after)

  -- after the first segment
  pub caught_first : (kept : List (List ℕ)) → ItemsStandAt f is m v 0 → kept ≡ take n ((v ∷ []) ++ octets_taken is v 0) → Caught f n is v (drop m is) (drop m v) kept
  caught_first kept stands kept_is = record {
    done = octets_taken is v 0;
    kept_is = kept_is;
    goes = λ cs after. own_segment 0 cs stands (subst (λ q. AreCaptures f (drop m is) (drop q v) cs) (omega arith) after);
  }

  -- after a star and the segment behind it
  pub caught_more : (all : List GlobItem) (i k : ℕ) (kept then last : List (List ℕ)) → EndsStar f is m v i k → Caught f n all v (Star ∷ is) (drop i v) kept
      → then ≡ take n (kept ++ take (k - i) (drop i v) ∷ []) → last ≡ take n (then ++ octets_taken is v k) → Caught f n all v (drop m is) (drop (k + m) v) last
  caught_more all i k kept then last ends old then_is last_is =
      let piece : List ℕ = take (k - i) (drop i v) in
      let ones : List (List ℕ) = octets_taken is v k in
      let first : take n (kept ++ piece ∷ []) ≡ take n ((v ∷ old.done) ++ piece ∷ []) =
      ap (λ l. take n (l ++ piece ∷ [])) old.kept_is ∙ take_twice n (v ∷ old.done) (piece ∷ []) in
      let second : last ≡ take n (((v ∷ old.done) ++ piece ∷ []) ++ ones) =
      last_is ∙ ap (λ l. take n (l ++ ones)) (then_is ∙ first) ∙ take_twice n ((v ∷ old.done) ++ piece ∷ []) ones in
      record {
        done = old.done ++ (piece ∷ ones);
        kept_is = second ∙ ap (take n) (append_assoc (v ∷ old.done) (piece ∷ []) ones);
        goes = λ cs after.
            subst (AreCaptures f all v) (sym (append_assoc old.done (piece ∷ ones) cs))
            (old.goes (piece ∷ (ones ++ cs)) (star_captures f v is m i k (ones ++ cs) ends (own_segment k cs ends.stands after)));
      }

-- at the value's end
pub caught_last : (f : ℕ → ℕ) (n : ℕ) (v : List ℕ) (all rest : List GlobItem) (i : ℕ) (kept : List (List ℕ)) → Caught f n all v rest (drop i v) kept → rest ≡ [] → i ≡ length v
    → (cs : List (List ℕ)) × AreCaptures f all v cs × (kept ≡ take n (v ∷ cs))
caught_last f n v all rest i kept old none ended =
    let done : List (List ℕ) = old.done in
    let nothing : drop i v ≡ [] = drop_all i v (omega arith) in
    let empty : AreCaptures f rest (drop i v) [] =
    subst (λ t. AreCaptures f rest t []) (sym nothing) (subst (λ r. AreCaptures f r [] []) (sym none) (captures_nil f)) in (
      done,
      subst (AreCaptures f all v) (append-nil done) (old.goes [] empty),
      old.kept_is,
    )

-- where a segment was found that a star follows
pub ends_first : (f : ℕ → ℕ) (v : List ℕ) (is rest : List GlobItem) (m i : ℕ) → m ≡ segment_len is → i ≤ length v → drop m is ≡ Star ∷ rest → (k : ℕ) → i ≤ k
    → ItemsStandAt f is m v k → Nowhere (ItemsStandAt f is m v) i k → EndsStar f is m v i k
ends_first f v is rest m i counted start more k low stands before = record {
  low = low;
  stands = stands;
  before = λ j from early g. before j from early (Glob-parts f v is m counted j (omega (arith, stands.fits)) g).0;
  same = first_serves f v is m counted i start rest more k low stands before;
}

-- where the last segment stands
pub ends_last : (f : ℕ → ℕ) (v : List ℕ) (is : List GlobItem) (m i : ℕ) → m ≡ segment_len is → i ≤ length v → drop m is ≡ [] → i + m ≤ length v
    → ItemsStandAt f is m v (length v - m) → EndsStar f is m v i (length v - m)
ends_last f v is m i counted start last room stands =
    let end : length v - m + m ≡ length v = omega arith in
    record {
      low = omega arith;
      stands = stands;
      before = λ j from early g.
          let parts = Glob-parts f v is m counted j (omega arith) g in
          let ended = (Glob-nil f v (j + m) parts.0.fits).0 (subst (λ l. Glob f l (drop (j + m) v)) last parts.1) in
          absurd (omega arith);
      same = (
        λ g. subst (λ l. Glob f l (drop (length v - m + m) v)) (sym last) ((Glob-nil f v (length v - m + m) (omega arith)).1 end),
        λ g. (last_serves f v is m counted i start last room).1 stands,
      );
    }
