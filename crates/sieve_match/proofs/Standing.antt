-- Equal images, and where a key stands in a value.
use Rattle.std.proofs.Common.{refl, ◌≡◌, ℕ, ◌+◌, ◌-◌, ◌<◌, ◌≤◌, List, ◌++◌, map, length, take, drop, get_or, slice_index, sym, ap, subst, ◌∙◌, ⊎_elim, arith, Option, Some, None, is_some, ◌↔◌, IsTrue}
use Rattle.std.proofs.lemmas.List.{length-map, map-append, append_assoc, take-append-drop, length-append, length-take-le, length-drop, get_or-take, get_or-drop, ext_get_or, get_or_append_left, get_or-append-add}
use Rattle.std.proofs.Math.ListN.{get_or-map}
use Rattle.std.proofs.lemmas.Bool.{cases_lt, false≢true, eqb-true, eq-eqb}
use Rattle.memchr.specs.Find.{IsFirst}
use Rattle.sieve_match.specs.Comparators.{EqualBy, ContainsBy, SameFrom}
use Rattle.memchr.proofs.lemmas.FindLemmas.{IsFirst-agree}
use Rattle.sieve_match.specs.Places.{FitsAt}
use Rattle.sieve_match.specs.Search.{fits_key, image_at, StandsAt}

module _ (f : ℕ → ℕ) (xs ys : List ℕ) where
  pub EqualBy-at : EqualBy f xs ys → (k : ℕ) → f (get_or xs k 0) ≡ f (get_or ys k 0)
  EqualBy-at e k = sym (get_or-map f xs k 0) ∙ ap (λ l. get_or l k (f 0)) e ∙ get_or-map f ys k 0

  pub EqualBy-length : EqualBy f xs ys → length xs ≡ length ys
  EqualBy-length e = sym (length-map xs f) ∙ ap length e ∙ length-map ys f

  pub EqualBy-from : length xs ≡ length ys → ((k : ℕ) → k < length xs → f (get_or xs k 0) ≡ f (get_or ys k 0)) → EqualBy f xs ys
  EqualBy-from e h =
      ext_get_or (f 0) (map f xs) (map f ys) (length-map xs f ∙ e ∙ sym (length-map ys f))
      (λ k l. get_or-map f xs k 0 ∙ h k (omega (arith, length-map xs f)) ∙ sym (get_or-map f ys k 0))

  -- the octets of a run after those before it
  pub SameFrom-more : (i count : ℕ) → ((k : ℕ) → k < i → f (get_or xs k 0) ≡ f (get_or ys k 0)) → SameFrom f xs ys i count
      → (k : ℕ) → k < i + count → f (get_or xs k 0) ≡ f (get_or ys k 0)
  SameFrom-more i count before run k l = ⊎_elim
      (λ inside. before k inside)
      (λ outside. subst (λ j. f (get_or xs j 0) ≡ f (get_or ys j 0)) (omega arith) (run (k - i) (omega arith)))
      (cases_lt k i)

  pub SameFrom-of : EqualBy f xs ys → (i count : ℕ) → SameFrom f xs ys i count
  SameFrom-of e i count k l = EqualBy-at e (i + k)

module _ (f : ℕ → ℕ) (key value : List ℕ) where
  -- the texts around a key that stands at a place
  pub ContainsBy-of : (k : ℕ) → StandsAt f (slice_index key) (length key) value k → ContainsBy f key value
  ContainsBy-of k h =
      let m = length key in
      let d = drop k value in
      let middle = take m d in
      let fits = h.fits in
      let long : m ≤ length d = omega (arith, length-drop k value) in
      let same : map f key ≡ map f middle =
      EqualBy-from f key middle (sym (length-take-le m d long))
      (λ j l. sym (h.reads j l) ∙ sym (ap f (get_or-take m d j 0 l ∙ get_or-drop k value j 0))) in
      let parts : map f value ≡ map f (take k value) ++ (map f middle ++ map f (drop m d)) =
      sym (ap (map f) (take-append-drop k value)) ∙ map-append f (take k value) d
      ∙ ap (λ l. map f (take k value) ++ l) (sym (ap (map f) (take-append-drop m d)) ∙ map-append f middle (drop m d)) in
      let whole : map f (take k value ++ key ++ drop m d) ≡ map f (take k value) ++ (map f key ++ map f (drop m d)) =
      map-append f (take k value ++ key) (drop m d) ∙ ap (λ l. l ++ map f (drop m d)) (map-append f (take k value) key)
      ∙ append_assoc (map f (take k value)) (map f key) (map f (drop m d)) in
      (take k value, (drop m d, parts ∙ ap (λ l. map f (take k value) ++ (l ++ map f (drop m d))) (sym same) ∙ sym whole))

  -- where the key stands between two texts
  pub StandsAt-of : (a b : List ℕ) → map f value ≡ map f (a ++ key ++ b) → StandsAt f (slice_index key) (length key) value (length a)
  StandsAt-of a b e =
      let sizes = EqualBy-length f value (a ++ key ++ b) e in
      let all = length-append (a ++ key) b in
      let front = length-append a key in
      record {
        fits = omega arith;
        reads = λ j l.
            EqualBy-at f value (a ++ key ++ b) e (length a + j)
            ∙ ap f (get_or_append_left (a ++ key) b 0 (length a + j) (omega arith) ∙ get_or-append-add a key j 0);
      }

  -- a search tells whether the key is contained
  pub ContainsBy-found : (r : Option ℕ) → IsFirst (StandsAt f (slice_index key) (length key) value) 0 (length value + 1) r
      → IsTrue (is_some r) ↔ ContainsBy f key value
  ContainsBy-found None h = (
    λ no. absurd (false≢true no),
    λ (a, (b, e)). let stands = StandsAt-of a b e in absurd (h (length a) (omega arith) (omega (arith, stands.fits)) stands),
  )
  ContainsBy-found (Some k) h = (λ _. ContainsBy-of k h.1, λ _. refl)

-- a search by places is one for the key
pub stands_by_places : (f octets : ℕ → ℕ) (m : ℕ) (v : List ℕ) (from : ℕ) (r : Option ℕ) → IsFirst (FitsAt (fits_key f octets) m v) from (length v + 1) r
    → IsFirst (StandsAt f octets m v) from (length v + 1) r
stands_by_places f octets m v from r found =
    IsFirst-agree (FitsAt (fits_key f octets) m v) (StandsAt f octets m v) from (length v + 1)
    (λ k low h. record {
      fits = h.within;
      reads = λ j below. sym (eqb-true (image_at f octets j) (f (slice_index v (k + j))) (h.each j below));
    })
    (λ k low h. record {
      within = h.fits;
      each = λ j below. eq-eqb (image_at f octets j) (f (slice_index v (k + j))) (sym (h.reads j below));
    })
    r found
